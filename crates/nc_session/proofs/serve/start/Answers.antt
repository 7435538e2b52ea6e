use Rattle.std.proofs.Common.{◌≡◌, ◌++◌, ◌∷◌, [], true, Err, refl, ap, subst, sym}
use Rattle.nc_model.specs.declared.desk.DeskFault.{DeskFault}
use Rattle.nc_protocol.specs.declared.peer.Peer.{Peer}
use Rattle.nc_model.specs.declared.event.Event.TheVariants.{Start}
use Rattle.nc_model.specs.declared.event.Outcome.{Outcome}
use Rattle.nc_session.specs.inner.Turns.{ComesTo}
use Rattle.nc_model.specs.Desks.{Submits, TellsSpent, is_own}
use Rattle.nc_model.specs.Step.{is_of_start}
use Rattle.nc_session.proofs.Living.{Lands, lands, reads, own_none}
use Rattle.nc_session.proofs.Serving.{begun, start_for_memory, start_spent}
use Rattle.nc_session.proofs.serve.start.Goals as goal

pub started-requires : goal.started-requires
started-requires g c = subst (λ (o : Outcome). is_of_start o ≡ true) (sym c.into_outcome.ensures) c.in-Ok.ensures.comes

pub returns-in-Ok : goal.returns-in-Ok
returns-in-Ok g c = λ call peer stands.
    let Then = g.Q.Desk.stands c.submit.new.self call.home in
    let e = c.in-Ok.entry in
    let P : Peer → Type 0 = λ p. Lands Then call.home.alone call.seen (call.mine ++ e ∷ []) (Start p) e in
    begun call Then (g.Q.Desk.spent c.submit.new.self) e c.started.result
    (subst P (sym peer) (lands refl (c.in-Ok.ensures.entered call.home call.seen call.mine stands)))
    (subst (λ (o : Outcome). ComesTo o c.started.result) c.into_outcome.ensures c.started.ensures)

pub returns-in-Err-Memory : goal.returns-in-Err-Memory
returns-in-Err-Memory g c = λ call peer stands.
    let Then = g.Q.Desk.stands c.submit.new.self call.home in
    let P : DeskFault → Type 0 = λ f. Submits Then call.home.alone call.seen call.mine (Start c.args.peer) (Err f) in
    let made = subst P c.in-Err-Memory.field-0-is (c.in-Err-Memory.ensures.entered call.home call.seen call.mine stands) in
    start_for_memory call Then (g.Q.Desk.spent c.submit.new.self) made.0 (reads made.1) (own_none made.0 (ap is_own made.1.event_is))

pub returns-in-Err-Spent : goal.returns-in-Err-Spent
returns-in-Err-Spent g c = λ call peer stands.
    let Then = g.Q.Desk.stands c.submit.new.self call.home in
    let P : DeskFault → Type 0 = λ f. Submits Then call.home.alone call.seen call.mine (Start c.args.peer) (Err f) in
    let T : DeskFault → Type 0 = λ f. TellsSpent (g.Q.Desk.spent c.submit.new.self) f in
    let spent = subst P c.in-Err-Spent.field-0-is (c.in-Err-Spent.ensures.entered call.home call.seen call.mine stands) in
    start_spent call Then (g.Q.Desk.spent c.submit.new.self) c.in-Err-Spent.ticket spent.last (subst T c.in-Err-Spent.field-0-is c.in-Err-Spent.ensures.spent) spent.stands
