-- How an entry leaves its session.
use Rattle.std.proofs.Common.{◌≡◌, ◌≢◌, ◌⊎◌, ◌&&◌, ℕ, Bool, true, false, refl, sym, ap, subst, ◌∙◌, inl, inr}
use Rattle.std.specs.Prelude.{if◌then◌else◌}
use Rattle.nc_message.specs.declared.tree.Tree.{Tree}
use Rattle.nc_model.specs.Access.{sees_of}
use Rattle.nc_model.specs.State.{State, expired, is_live}
use Rattle.nc_model.specs.Step.{Fits, has_failed, is_done, outcome_of}
use Rattle.nc_model.specs.Verdict.{verdict}
use Rattle.nc_model.specs.declared.entry.Entry.{Entry}
use Rattle.nc_model.specs.declared.event.Event.{Event}
use Rattle.nc_model.specs.declared.event.Event.TheVariants.{Request as Requested, End, Reading}
use Rattle.nc_model.specs.declared.event.Outcome.{Outcome}
use Rattle.nc_model.specs.declared.event.Outcome.TheVariants.{Started, Full, Answered, NotLive, Ended, Noted}
use Rattle.nc_protocol.specs.Reply.{reply_of}
use Rattle.nc_protocol.specs.declared.request.Request.{Request}
use Rattle.nc_protocol.specs.declared.verdict.Verdict.{Verdict}
use Rattle.nc_session.specs.Sessions.{IsAnswered, is_close}
use Rattle.nc_script.specs.Leaving.{IsAnsweredSo}
use Rattle.nc_script.specs.inner.Left.{IsLeft, IsLeftBy}
use Rattle.nc_script.specs.declared.leaving.Left.{Left}
use Rattle.nc_script.specs.declared.leaving.Left.TheVariants.{Live, Closed, Dead}

live_by : (closes : Bool) (decided : Verdict) → IsLeftBy closes decided Live → (closes && is_done decided) ≡ false
live_by true decided is = is
live_by false decided is = refl

closed_by : (closes : Bool) (decided : Verdict) → IsLeftBy closes decided Closed → (closes && is_done decided) ≡ true
closed_by true decided is = is
closed_by false decided is = cc is

dead_by : (closes : Bool) (decided : Verdict) → IsLeftBy closes decided Dead → ⊥
dead_by true decided is = is
dead_by false decided is = cc is

pub left_is : (e : Entry) (decided : Verdict) (reply : Tree) (left : Left) → e.outcome ≡ Answered decided reply
    → IsLeftBy (is_close e.event) decided left → IsLeft e left
left_is e decided reply Live out is = (
  subst (λ o. IsAnsweredSo false (is_close e.event) o) (sym out) (live_by (is_close e.event) decided is),
  subst IsAnswered (sym out) tt,
)
left_is e decided reply Closed out is = (
  subst (λ o. IsAnsweredSo true (is_close e.event) o) (sym out) (closed_by (is_close e.event) decided is),
  subst IsAnswered (sym out) tt,
)
left_is e decided reply Dead out is = absurd (dead_by (is_close e.event) decided is)

pub not_answered : (e : Entry) → ((decided : Verdict) (reply : Tree) → e.outcome ≢ Answered decided reply) → ¬ IsAnswered e.outcome
not_answered e other answered = by e.outcome refl answered
  where
    by : (o : Outcome) → e.outcome ≡ o → IsAnswered o → ⊥
    by (Answered decided reply) is answered = other decided reply is
    by (Started n) is answered = answered
    by (Full l n) is answered = answered
    by NotLive is answered = answered
    by Ended is answered = answered
    by Noted is answered = answered

-- ---- what an event comes to
came : (s : State) (e : Entry) (event : Event) → Fits s e → e.event ≡ event
    → e.outcome ≡ outcome_of (expired s e.at) event (has_failed e.outcome)
came s e event fits is = fits.outcome ∙ ap (λ (v : Event). outcome_of (expired s e.at) v (has_failed e.outcome)) is

-- a request that is not answered finds its session dead
pub dead_request : (s : State) (e : Entry) (session : ℕ) (request : Request) → Fits s e → e.event ≡ Requested session request
    → ¬ IsAnswered e.outcome → e.outcome ≡ NotLive
dead_request s e session request fits is not =
    let t = expired s e.at in
    let decided = verdict t session request (has_failed e.outcome) in
    by (is_live t session) decided (reply_of t.schema (sees_of t session) request decided) (came s e (Requested session request) fits is)
  where
    by : (live : Bool) (decided : Verdict) (reply : Tree) → e.outcome ≡ (if live then Answered decided reply else NotLive) → e.outcome ≡ NotLive
    by false decided reply out = out
    by true decided reply out = absurd (not (subst IsAnswered (sym out) tt))

pub end_comes : (s : State) (e : Entry) (session : ℕ) → Fits s e → e.event ≡ End session → (e.outcome ≡ Ended) ⊎ (e.outcome ≡ NotLive)
end_comes s e session fits is = by (is_live (expired s e.at) session) (came s e (End session) fits is)
  where
    by : (live : Bool) → e.outcome ≡ (if live then Ended else NotLive) → (e.outcome ≡ Ended) ⊎ (e.outcome ≡ NotLive)
    by true out = inl out
    by false out = inr out

pub read_comes : (s : State) (e : Entry) → Fits s e → e.event ≡ Reading → e.outcome ≡ Noted
read_comes s e fits is = came s e Reading fits is
