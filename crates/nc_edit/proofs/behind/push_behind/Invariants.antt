use Rattle.std.proofs.Common.{◌≡◌}
use Rattle.nc_edit.specs.inner.Behind.{AreEarlier, MakeBehind, keys_of}
use Rattle.nc_edit.proofs.behind.push_behind.Given as goal

abbrev pub invariant-loop-edit : goal.invariant-loop-edit
invariant-loop-edit l =
    (l.count ≡ l.edit-index) ×
    AreEarlier (keys_of l.schema l.path.steps) l.least l.path.steps l.rows ×
    MakeBehind l.schema l.path.steps l.initial.rows l.rows l.edits l.edit-index
