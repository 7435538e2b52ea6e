use Rattle.std.proofs.Common.{arith}
use Rattle.nc_protocol.specs.Applied.{Applied}
use Rattle.nc_edit.specs.inner.Alone.{turn_at}
use Rattle.nc_edit.proofs.FirstDenied.{fold_more}
use Rattle.nc_edit.proofs.alone.run_from.Goals as goal

pub loop-edit-preserved : goal.loop-edit-preserved
loop-edit-preserved c =
    let start : Applied = record { rows = c.args.config.now; causes = c.args.causes.now } in
    let before : Applied = record { rows = c.loop-edit.config; causes = c.loop-edit.causes } in
    let after : Applied = record { rows = c.turn_from.new.config; causes = c.turn_from.new.causes } in
    fold_more (turn_at c.args.schema.now c.args.from c.args.goes_on) start before after c.args.edits.now c.loop-edit.edit-index c.edit-item.result
    (omega arith) c.edit-item.is c.loop-edit.invariant c.in_ok-turn_from.ensures
