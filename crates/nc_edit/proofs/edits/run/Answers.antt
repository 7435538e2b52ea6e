use Rattle.std.proofs.Common.{[], arith}
use Rattle.nc_protocol.specs.Applied.{Applied}
use Rattle.nc_edit.specs.inner.Turns.{turn}
use Rattle.nc_edit.proofs.FirstDenied.{fold_more}
use Rattle.nc_edit.proofs.edits.run.Goals as goal

pub loop-edit-preserved : goal.loop-edit-preserved
loop-edit-preserved g c =
    let start : Applied = record { rows = c.args.config.now; causes = [] } in
    let before : Applied = record { rows = c.loop-edit.config; causes = c.loop-edit.causes } in
    let after : Applied = record { rows = c.turn.new.config; causes = c.turn.new.causes } in
    fold_more (turn c.args.schema.now (g.A.Asks.decided c.args.asks.now) c.args.goes_on) start before after c.args.edits.now c.loop-edit.edit-index c.edit-item.result
    (omega arith) c.edit-item.is c.loop-edit.invariant c.in_ok-turn.ensures.ok
