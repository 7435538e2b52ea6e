-- What an event of a session comes to, and where its entry stands.
use Rattle.std.proofs.Common.{◌≡◌, ◌≢◌, ◌⊎◌, ◌&&◌, ℕ, Bool, true, false, List, [], ◌∷◌, ◌++◌, refl, sym, ap, subst, ◌∙◌, inl, inr, append-nil, IsTrue}
use Rattle.std.specs.Prelude.{if◌then◌else◌}
use Rattle.nc_message.specs.declared.tree.Tree.{Tree}
use Rattle.nc_model.specs.declared.entry.Entry.{Entry}
use Rattle.nc_model.specs.declared.event.Event.{Event}
use Rattle.nc_model.specs.declared.event.Event.TheVariants.{End, Request as Requested, Reading}
use Rattle.nc_model.specs.declared.event.Outcome.TheVariants.{Answered, NotLive, Ended}
use Rattle.nc_protocol.specs.declared.request.Request.{Request}
use Rattle.nc_protocol.specs.declared.verdict.Verdict.{Verdict}
use Rattle.nc_model.specs.Access.{sees_of}
use Rattle.nc_model.specs.Desks.{Home, IsView, Entered, is_own, own_of}
use Rattle.nc_model.specs.History.{after}
use Rattle.nc_protocol.specs.Reply.{reply_of}
use Rattle.nc_model.specs.State.{expired, is_live}
use Rattle.nc_model.specs.Step.{outcome_of, has_failed, is_done}
use Rattle.nc_model.specs.Verdict.{verdict}
use Rattle.nc_session.specs.declared.standing.Standing.TheVariants.{Live, Closed, Dead}
use Rattle.nc_session.specs.Sessions.{standing_by, standing_after, is_close}

-- an entry is the last of the history; these are the desk's own then
pub record Lands (Stands : List Entry → List Entry → Type 0) (alone : Bool) (seen mine : List Entry) (event : Event) (e : Entry) : Type 0 where
  pub event_is : e.event ≡ event
  pub others : List Entry
  pub none : IsTrue alone → others ≡ []
  pub stands : Stands (seen ++ (others ++ e ∷ [])) mine

own_one : (e : Entry) → is_own e.event ≡ true → own_of (e ∷ []) ≡ e ∷ []
own_one e own = rw own refl

pub own_none : (e : Entry) → is_own e.event ≡ false → own_of (e ∷ []) ≡ []
own_none e own = rw own refl

-- an entry of one's own
pub lands : {Stands : List Entry → List Entry → Type 0} {alone : Bool} {seen mine : List Entry} {event : Event} {e : Entry} → is_own event ≡ true
    → Entered Stands alone seen mine event e → Lands Stands alone seen (mine ++ e ∷ []) event e
lands {Stands} {alone} {seen} {mine} {event} {e} own entered =
    let is : own_of (e ∷ []) ≡ e ∷ [] = own_one e (ap is_own entered.event_is ∙ own) in
    let P : List Entry → Type 0 = λ x. Stands (seen ++ (entered.others ++ e ∷ [])) (mine ++ x) in
    record { event_is = entered.event_is; others = entered.others; none = entered.none; stands = subst P is entered.stands }

-- a reading of the clock
pub reads : {Stands : List Entry → List Entry → Type 0} {alone : Bool} {seen mine : List Entry} {e : Entry}
    → Entered Stands alone seen mine Reading e → Lands Stands alone seen mine Reading e
reads {Stands} {alone} {seen} {mine} {e} entered =
    let is : mine ++ own_of (e ∷ []) ≡ mine = ap (λ x. mine ++ x) (own_none e (ap is_own entered.event_is)) ∙ append-nil mine in
    let P : List Entry → Type 0 = λ x. Stands (seen ++ (entered.others ++ e ∷ [])) x in
    record { event_is = entered.event_is; others = entered.others; none = entered.none; stands = subst P is entered.stands }

-- what comes of the last entry of a history
came : (home : Home) (front mine : List Entry) (e : Entry) (event : Event) → IsView home (front ++ e ∷ []) mine → e.event ≡ event
    → e.outcome ≡ outcome_of (expired (after home.opening front) e.at) event (has_failed e.outcome)
came home front mine e event view is =
    let s = expired (after home.opening front) e.at in
    (view.legal front [] e refl).1.outcome ∙ ap (λ (v : Event). outcome_of s v (has_failed e.outcome)) is

not_dead : (closes : Bool) (decided : Verdict) (reply : Tree) → standing_by closes (Answered decided reply) ≢ Dead
not_dead closes decided reply = by (closes && is_done decided)
  where
    by : (c : Bool) → (if c then Closed else Live) ≢ Dead
    by true e = cc
    by false e = cc

-- a request that finds its session dead is answered so
pub dead_request : (home : Home) (front mine : List Entry) (e : Entry) (session : ℕ) (request : Request) → IsView home (front ++ e ∷ []) mine → e.event ≡ Requested session request
    → standing_after e ≡ Dead → e.outcome ≡ NotLive
dead_request home front mine e session request view is dead =
    let s = expired (after home.opening front) e.at in
    let decided = verdict s session request (has_failed e.outcome) in
    by (is_live s session) decided (reply_of s.schema (sees_of s session) request decided) (came home front mine e (Requested session request) view is)
  where
    by : (live : Bool) (decided : Verdict) (reply : Tree) → e.outcome ≡ (if live then Answered decided reply else NotLive) → e.outcome ≡ NotLive
    by false decided reply out = out
    by true decided reply out = absurd (not_dead (is_close e.event) decided reply (ap (λ o. standing_by (is_close e.event) o) (sym out) ∙ dead))

-- an End comes to one of two
pub end_comes : (home : Home) (front mine : List Entry) (e : Entry) (session : ℕ) → IsView home (front ++ e ∷ []) mine → e.event ≡ End session
    → (e.outcome ≡ Ended) ⊎ (e.outcome ≡ NotLive)
end_comes home front mine e session view is =
    by (is_live (expired (after home.opening front) e.at) session) (came home front mine e (End session) view is)
  where
    by : (live : Bool) → e.outcome ≡ (if live then Ended else NotLive) → (e.outcome ≡ Ended) ⊎ (e.outcome ≡ NotLive)
    by true out = inl out
    by false out = inr out
