-- A session to which nothing is denied may change everything.
use Rattle.std.proofs.Common.{◌∙◌, sym}
use Rattle.nc_protocol.specs.Changes.{changes_between}
use Rattle.nc_machine.proofs.Open.{undenied}
use Rattle.nc_machine.proofs.server.Server.denied_between.Goals as goal

pub returns-then-is_open : goal.returns-then-is_open
returns-then-is_open c =
    undenied c.args.self.now c.args.session
    (changes_between c.args.self.now.schema c.args.before.now c.args.after.now) (sym c.if-is_open.true ∙ c.is_open.ensures)
