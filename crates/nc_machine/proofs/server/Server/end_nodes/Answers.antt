use Rattle.std.proofs.Common.{◌∙◌, ap, sym}
use Rattle.nc_model.specs.State.{State}
use Rattle.nc_partial.specs.Granted.{Granted, granted_of}
use Rattle.nc_machine.proofs.server.Server.end_nodes.Goals as goal

pub returns : goal.returns
returns c =
    ap (λ (s : State). record s { partial = c.end.new.self.locks; last_lock = c.end.new.self.last }) c.self.view_is
    ∙ ap (λ (g : Granted). record c.args.self.now { partial = g.locks; last_lock = g.last })
    (c.end.ensures c.args.self.now (ap granted_of (sym c.self.view_is)))
