-- As far by the bindings so far, or by the rest.
use Rattle.std.proofs.Common.{◌≡◌, drop, max}
use Rattle.nc_path_places.specs.inner.Candidates.{far_among}
use Rattle.nc_path_places.proofs.candidates.far_among.Given as goal

abbrev pub invariant-loop-bound : goal.invariant-loop-bound
invariant-loop-bound l = max l.far (far_among l.node l.text (drop l.bound-index l.bounds)) ≡ far_among l.node l.text l.bounds
