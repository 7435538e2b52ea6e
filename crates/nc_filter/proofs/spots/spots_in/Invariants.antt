use Rattle.std.proofs.Common.{◌≡◌, take}
use Rattle.nc_filter.specs.inner.Labels.{AreSpotsIn}
use Rattle.nc_filter.proofs.spots.spots_in.Given as goal

abbrev pub invariant-loop-run : goal.invariant-loop-run
invariant-loop-run l = (l.number ≡ l.run-index) × AreSpotsIn l.held (take l.run-index l.whole) l.out
