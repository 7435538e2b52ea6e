-- A session to which nothing is denied sees every row.
use Rattle.std.proofs.Common.{◌∙◌, sym}
use Rattle.nc_machine.proofs.Open.{all_visible}
use Rattle.nc_machine.proofs.server.Server.visible.Goals as goal

pub returns-then-is_open : goal.returns-then-is_open
returns-then-is_open c =
    c.in_ok-copy.ensures ∙ all_visible c.args.self.now c.args.session c.args.config.now (sym c.if-is_open.true ∙ c.is_open.ensures)
