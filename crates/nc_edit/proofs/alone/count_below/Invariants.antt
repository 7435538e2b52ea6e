use Rattle.std.proofs.Common.{◌≡◌, take}
use Rattle.nc_edit.specs.inner.Alone.{AreBelow}
use Rattle.nc_edit.proofs.alone.count_below.Given as goal

abbrev pub invariant-loop-edit : goal.invariant-loop-edit
invariant-loop-edit l = (l.count ≡ l.edit-index) × AreBelow l.steps (take l.edit-index l.edits)
