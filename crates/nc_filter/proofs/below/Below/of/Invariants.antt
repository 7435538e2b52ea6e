use Rattle.std.proofs.Common.{◌≡◌, take}
use Rattle.nc_filter.specs.inner.Below.{AreInsides}
use Rattle.nc_filter.proofs.below.Below.of.Given as goal

abbrev pub invariant-loop-run : goal.invariant-loop-run
invariant-loop-run l = (l.number ≡ l.run-index) × AreInsides (take l.run-index l.runs) l.items
