use Rattle.std.proofs.Common.{◌≡◌, take, []}
use Rattle.std.specs.Prelude.{fold}
use Rattle.nc_edit.specs.inner.Turns.{turn}
use Rattle.nc_edit.proofs.edits.run.Given as goal

abbrev pub invariant-loop-edit : goal.invariant-loop-edit
invariant-loop-edit g l =
    record { rows = l.config; causes = l.causes }
    ≡ fold (turn l.schema (g.A.Asks.decided l.asks) l.goes_on) (record { rows = l.initial.config; causes = [] }) (take l.edit-index l.edits)
