-- The bindings so far, and those of the rest.
use Rattle.std.proofs.Common.{◌≡◌, ◌++◌, drop, filter}
use Rattle.nc_path_places.specs.inner.Candidates.{counts}
use Rattle.nc_path_places.proofs.candidates.usable.Given as goal

abbrev pub invariant-loop-bound : goal.invariant-loop-bound
invariant-loop-bound g l =
    l.out ++ filter (counts l.schema (g.B.Binds.bound l.bounds)) (drop l.bound-index l.every) ≡ filter (counts l.schema (g.B.Binds.bound l.bounds)) l.every
