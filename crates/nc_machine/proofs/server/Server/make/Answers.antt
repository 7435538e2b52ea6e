-- Where nothing is denied to a session, its edits are those with every right.
use Rattle.std.proofs.Common.{◌∙◌, sym}
use Rattle.nc_machine.proofs.Edits.{made_freely}
use Rattle.nc_machine.proofs.server.Server.make.Goals as goal

pub returns-then-is_open : goal.returns-then-is_open
returns-then-is_open c =
    made_freely c.args.self.now c.args.session c.args.on_error c.schema.result.now c.args.rows.now c.args.edits.now
    (record { rows = c.apply_freely.new.config; causes = c.in_ok-causes.causes }) (sym c.if-is_open.true ∙ c.is_open.ensures)
    c.schema.ensures c.in_ok-causes.ensures.all
