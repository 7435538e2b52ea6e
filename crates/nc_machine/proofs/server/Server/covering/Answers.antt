use Rattle.std.proofs.Common.{ap, sym}
use Rattle.nc_partial.specs.Granted.{granted_of}
use Rattle.nc_machine.proofs.server.Server.covering.Goals as goal

pub returns : goal.returns
returns c = c.covering.ensures c.args.self.now (ap granted_of (sym c.self.view_is))
