use Rattle.std.proofs.Common.{◌∙◌, sym}
use Rattle.nc_protocol.specs.Changes.{changes_between}
use Rattle.nc_machine.proofs.NodeLocks.{none_in_use}
use Rattle.nc_machine.proofs.server.Server.in_use_between.Goals as goal

pub returns-in_default : goal.returns-in_default
returns-in_default c =
    none_in_use c.args.self.now c.args.session
    (changes_between c.args.self.now.schema c.args.self.now.running c.args.rows.now)
    (sym c.in_default.is ∙ c.lowest_of_others.ensures)
