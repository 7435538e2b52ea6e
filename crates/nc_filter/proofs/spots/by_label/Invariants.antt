use Rattle.std.proofs.Common.{◌≡◌, take}
use Rattle.nc_filter.specs.inner.Labels.{AreSlots, spot_has}
use Rattle.nc_filter.proofs.spots.by_label.Given as goal

abbrev pub invariant-loop-spot : goal.invariant-loop-spot
invariant-loop-spot l = (l.number ≡ l.spot-index) × AreSlots (spot_has l.schema l.depth) l.items l.spots (take l.spot-index l.spots)
