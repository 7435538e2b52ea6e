-- The numbers so far, and those of the rest.
use Rattle.std.proofs.Common.{◌≡◌, ◌++◌, drop}
use Rattle.nc_path_places.specs.inner.Going.{without}
use Rattle.nc_path_places.proofs.candidates.without.Given as goal

abbrev pub invariant-loop-number : goal.invariant-loop-number
invariant-loop-number l = l.out ++ without l.one (drop l.number-index l.numbers) ≡ without l.one l.numbers
