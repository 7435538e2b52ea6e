use Rattle.std.proofs.Common.{◌≡◌, ◌∙◌, ap, subst, sym}
use Rattle.std.specs.Prelude.{OnErr}
use Rattle.nc_model.specs.State.{State}
use Rattle.nc_partial.specs.Granted.{Granted, granted_of}
use Rattle.nc_machine.proofs.NodeLocks.{grants}
use Rattle.nc_machine.proofs.server.Server.grant_nodes.Goals as goal

pub returns-clause-made : goal.returns-clause-made
returns-clause-made c =
    let now : State = c.args.self.now in
    let is : granted_of now ≡ c.self.inside.partial = ap granted_of (sym c.self.view_is) in
    ap (λ (s : State). record s { partial = c.grant-told.new.self.locks; last_lock = c.grant-told.new.self.last }) c.self.view_is
    ∙ grants now c.args.session c.args.nodes c.grant-told.new.self c.grant-told.result (c.grant-told.ensures.told now is)
    (c.grant-told.ensures.granted now is)
    (subst (λ (g : Granted). OnErr c.grant-told.result (c.grant-told.new.self ≡ g)) (sym is) c.grant-told.ensures.refused)
    (sym c.wants_memory.ensures ∙ c.if-wants_memory.false)
