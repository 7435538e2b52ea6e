use Rattle.std.proofs.Common.{◌≡◌, take}
use Rattle.std.specs.Prelude.{fold}
use Rattle.nc_edit.specs.inner.Alone.{turn_at}
use Rattle.nc_edit.proofs.alone.run_from.Given as goal

abbrev pub invariant-loop-edit : goal.invariant-loop-edit
invariant-loop-edit l =
    record { rows = l.config; causes = l.causes }
    ≡ fold (turn_at l.schema l.from l.goes_on) (record { rows = l.initial.config; causes = l.initial.causes }) (take l.edit-index l.edits)
