use Rattle.std.proofs.Common.{◌≡◌, [], true, Err, inl, refl, subst, sym}
use Rattle.nc_model.specs.Step.{is_of_start}
use Rattle.nc_model.specs.declared.event.Event.TheVariants.{Start}
use Rattle.nc_model.specs.declared.event.Outcome.{Outcome}
use Rattle.nc_script.proofs.Made.{entered_may_come, made_none, words_by}
use Rattle.nc_script.proofs.Talkings.{has_begun, ungreeted, unstarted}
use Rattle.nc_script.specs.Runs.{NotRead}
use Rattle.nc_script.specs.inner.Entering.{Comes, IsEntered}
use Rattle.nc_script.specs.inner.Talking.{Placed}
use Rattle.nc_script.proofs.talk.begin.Goals as goal

pub returns-in_default : goal.returns-in_default
returns-in_default g c =
    ([], inl refl, tt, record { last = []; made = made_none c.args.machine.now; read = NotRead; tells = tt })

pub returns-in-Err : goal.returns-in-Err
returns-in-Err g c =
    unstarted c.args.number c.args.peer.now c.args.at c.args.machine.now c.submit.new.machine c.in-Err.fault
    (subst (λ p. Comes (words_by g.K.Keeper) c.args.machine.now c.submit.new.machine (Start p) c.args.at
    (Err c.in-Err.fault)) c.in-Ok.ensures c.in-Err.ensures)

pub placed-state-requires : goal.placed-state-requires
placed-state-requires g c =
    let e = c.in-Ok-submit.entry in
    let entered = subst (λ p. IsEntered (words_by g.K.Keeper) c.args.machine.now c.submit.new.machine
    (Start p) c.args.at e) c.in-Ok.ensures
    c.in-Ok-submit.ensures in
    subst (λ (o : Outcome). is_of_start o ≡ true) (sym c.into_outcome.ensures)
    (entered_may_come c.args.machine.now c.submit.new.machine (Start c.args.peer.now) c.args.at e entered)

pub returns-in-Ok-greet : goal.returns-in-Ok-greet
returns-in-Ok-greet g c =
    let e = c.in-Ok-submit.entry in
    let entered = subst (λ p. IsEntered (words_by g.K.Keeper) c.args.machine.now c.submit.new.machine
    (Start p) c.args.at e) c.in-Ok.ensures
    c.in-Ok-submit.ensures in
    has_begun c.args.number c.args.peer.now c.args.at c.args.machine.now c.submit.new.machine e c.in-Ok-greet.text entered
    c.placed-state.result (subst (λ o. Placed o c.placed-state.result) c.into_outcome.ensures c.placed-state.ensures)
    c.in-Ok-greet.ensures

pub returns-in-Err-greet : goal.returns-in-Err-greet
returns-in-Err-greet g c =
    let e = c.in-Ok-submit.entry in
    let entered = subst (λ p. IsEntered (words_by g.K.Keeper) c.args.machine.now c.submit.new.machine
    (Start p) c.args.at e) c.in-Ok.ensures
    c.in-Ok-submit.ensures in
    ungreeted c.args.number c.args.peer.now c.args.at c.args.machine.now c.submit.new.machine e [] entered
    c.placed-state.result c.in-Err-greet.fault c.in-Err-greet.ensures
