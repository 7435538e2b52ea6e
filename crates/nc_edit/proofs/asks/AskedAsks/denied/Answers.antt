use Rattle.std.proofs.Common.{ap}
use Rattle.nc_protocol.specs.Edited.{denied_cause}
use Rattle.nc_edit.proofs.asks.AskedAsks.denied.Goals as goal

pub returns-then-branch : goal.returns-then-branch
returns-then-branch g c =
    ap (denied_cause (g.R.Rights.decided c.args.self.now.rights.now))
    (c.in_ok-changes_nothing.ensures c.if-branch.true (g.R.Rights.decided c.args.self.now.rights.now))
