-- So many signs are the same, and as many as those of the rests.
use Rattle.std.proofs.Common.{◌≡◌, ◌+◌, drop}
use Rattle.nc_path_places.specs.inner.Candidates.{common}
use Rattle.nc_path_places.proofs.candidates.common.Given as goal

abbrev pub invariant-loop-at : goal.invariant-loop-at
invariant-loop-at l = l.at + common (drop l.at l.one) (drop l.at l.other) ≡ common l.one l.other
