use Rattle.std.proofs.Common.{◌≡◌, ◌∙◌, ap, cond, sym}
use Rattle.nc_model.specs.State.{State}
use Rattle.nc_model.specs.Step.{without_partial}
use Rattle.nc_model.specs.Verdict.{has_lock}
use Rattle.nc_partial.specs.Granted.{Granted, granted_of}
use Rattle.nc_machine.proofs.NodeLocks.{releases}
use Rattle.nc_machine.proofs.server.Server.release_nodes.Goals as goal

pub returns : goal.returns
returns c =
    let now : State = c.args.self.now in
    let is : granted_of now ≡ c.self.inside.partial = ap granted_of (sym c.self.view_is) in
    ap (λ (s : State). record s { partial = c.release.new.self.locks; last_lock = c.release.new.self.last }) c.self.view_is
    ∙ releases now c.args.session c.args.lock c.release.new.self
    (c.release.ensures.released now is
    ∙ ap (λ (g : Granted). cond (has_lock now c.args.session c.args.lock) (granted_of (without_partial now c.args.lock)) g) (sym is))
