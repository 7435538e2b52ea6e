use Rattle.std.proofs.Common.{◌≡◌, take}
use Rattle.nc_filter.specs.inner.Labels.{AreSlots, want_has}
use Rattle.nc_filter.proofs.wants.by_label.Given as goal

abbrev pub invariant-loop-want : goal.invariant-loop-want
invariant-loop-want l = (l.number ≡ l.want-index) × AreSlots want_has l.items l.wants (take l.want-index l.wants)
