-- A live session stays live until an entry ends it.
use Rattle.std.proofs.Common.{◌≡◌, ◌≢◌, ◌⊎◌, ◌==◌, ◌||◌, ℕ, Bool, true, false, not, List, [], ◌∷◌, ◌++◌, refl, sym, ap, subst, ◌∙◌, inl, inr, append_assoc, Option, Some, None, Result, Ok, Err}
use Rattle.std.specs.Prelude.{if◌then◌else◌, is_some}
use Rattle.std.specs.List.{Contains, list_any}
use Rattle.std.proofs.lemmas.Bool.{eq-eqb}
use Rattle.std.proofs.lemmas.Bool.Decides.{eqb_tells}
use Rattle.std.proofs.lemmas.List.Folds.{list_any-append}
use Rattle.nc_names.specs.declared.path.Row.{Row}
use Rattle.nc_message.specs.declared.tree.Tree.{Tree}
use Rattle.nc_protocol.specs.declared.asked.Asked.{Asked}
use Rattle.nc_protocol.specs.declared.asked.Asked.TheVariants.{Get, GetConfig, EditConfig, CopyConfig, DeleteConfig, Lock, Unlock, CloseSession, KillSession, Commit, DiscardChanges, CancelCommit, Validate, PartialLock, PartialUnlock}
use Rattle.nc_model.specs.declared.entry.Entry.{Entry}
use Rattle.nc_model.specs.declared.event.Event.{Event}
use Rattle.nc_model.specs.declared.event.Event.TheVariants.{Start, Request as Requested, End, Reading}
use Rattle.nc_model.specs.declared.event.Outcome.{Outcome}
use Rattle.nc_model.specs.declared.event.Outcome.TheVariants.{Started, Full, Answered, NotLive, Ended, Noted}
use Rattle.nc_protocol.specs.declared.request.Cause.{Cause}
use Rattle.nc_protocol.specs.declared.request.Request.{Request}
use Rattle.nc_protocol.specs.declared.verdict.Verdict.{Verdict}
use Rattle.nc_names.specs.Same.{is_same_rows}
use Rattle.nc_model.specs.State.{State, Pending, candidate_in_force, expired, is_due, is_live, left_by_end, read_at, released, reverted, session_ended, without_session}
use Rattle.nc_model.specs.Step.{Fits, next, changed, changed_by, answered_unless, with_candidate, rows_of_ok, is_done, outcome_of, has_failed}
use Rattle.nc_model.specs.History.{after}
use Rattle.nc_protocol.specs.declared.peer.Peer.{Peer}
use Rattle.nc_model.specs.declared.session.Session.{Session}
use Rattle.nc_protocol.specs.declared.verdict.Verdict.TheVariants.{Done, Selected, Locked, Refused}
use Rattle.nc_model.specs.Access.{sees_of}
use Rattle.nc_protocol.specs.Reply.{reply_of}
use Rattle.nc_model.specs.Verdict.{edits_made, operation_refused, rows_set, copied, verdict}
use Rattle.nc_model.proofs.HistoryLemmas.{histories_join}
use Rattle.nc_protocol.proofs.ListLemmas.{contains_here, contains_behind}
use Rattle.nc_model.specs.Laws.{IsOf, EndsSession, IsEndedBetween, ended_by}
use Rattle.nc_model.proofs.SessionLemmas.{other_among}

-- the end of another session
abbrev over : State → ℕ → State
over s own = released (without_session s own) own

left_live : (s : State) (own n : ℕ) (pending : Option Pending) → is_live (left_by_end (over s own) own pending) n ≡ is_live (without_session s own) n
left_live s own n None = refl
left_live s own n (Some pending) = by (pending.session == own) (is_some pending.token)
  where
    by : (mine persists : Bool) → is_live (if not mine then over s own else (if persists then record (over s own) { pending = Some (record pending { session = 0 }) } else reverted (over s own))) n ≡ is_live (without_session s own) n
    by false persists = refl
    by true true = refl
    by true false = refl

other_ended : (s : State) (own n : ℕ) → own ≢ n → is_live s n ≡ true → is_live (session_ended s own) n ≡ true
other_ended s own n other live = left_live s own n s.pending ∙ other_among s.sessions own n other live

-- the clock ends no session
pub read_live : (s : State) (at n : ℕ) → is_live (expired s at) n ≡ is_live s n
read_live s at n = by (is_due (read_at s at))
  where
    by : (due : Bool) → is_live (if due then reverted (read_at s at) else read_at s at) n ≡ is_live s n
    by true = refl
    by false = refl

candidate_live : (s : State) (rows : Option (List Row)) (n : ℕ) → is_live (with_candidate s rows) n ≡ is_live s n
candidate_live s None n = refl
candidate_live s (Some rows) n = by (is_same_rows rows (candidate_in_force s))
  where
    by : (same : Bool) → is_live (if same then s else record s { candidate = Some rows }) n ≡ is_live s n
    by true = refl
    by false = refl

abbrev pub StaysOr : State → Event → Outcome → ℕ → State → Type 0
StaysOr s event outcome n t = EndsSession n event outcome ⊎ (is_live t n ≡ true)

-- what is asked for, by the verdict on it: the session stays live, or is ended
abbrev StaysBy : State → ℕ → ℕ → Asked → Verdict → Type 0
StaysBy s own n asked verdict = ((ended_by own (Ok asked) ≡ Some n) × (is_done verdict ≡ true)) ⊎ (is_live (changed_by s own asked verdict) n ≡ true)

-- the end of a session by a request that ends it
ends_or_stays : (s : State) (number n : ℕ) → is_live s n ≡ true → (number ≡ n) ⊎ (is_live (session_ended s number) n ≡ true)
ends_or_stays s number n live = by (eqb_tells number n)
  where
    by : (((number == n) ≡ true) × (number ≡ n)) ⊎ (((number == n) ≡ false) × (number ≢ n)) → (number ≡ n) ⊎ (is_live (session_ended s number) n ≡ true)
    by (inl (holds, same)) = inl same
    by (inr (fails, differs)) = inr (other_ended s number n differs live)

closes_or_stays : (s : State) (own n : ℕ) → (own ≡ n) ⊎ (is_live (session_ended s own) n ≡ true) → StaysBy s own n CloseSession Done
closes_or_stays s own n (inl same) = inl (ap Some same, refl)
closes_or_stays s own n (inr on) = inr on

kills_or_stays : (s : State) (own number n : ℕ) → (number ≡ n) ⊎ (is_live (session_ended s number) n ≡ true) → StaysBy s own n (KillSession number) Done
kills_or_stays s own number n (inl same) = inl (ap Some same, refl)
kills_or_stays s own number n (inr on) = inr on

asked_stays : (s : State) (own n : ℕ) (asked : Asked) (verdict : Verdict) → is_live s n ≡ true → StaysBy s own n asked verdict
asked_stays s own n (EditConfig target default_operation test on_error config) verdict live =
    inr (candidate_live s (rows_set s.schema test (edits_made s own target default_operation on_error config)) n ∙ live)
asked_stays s own n (CopyConfig target source) verdict live = inr (candidate_live s (rows_of_ok (copied s own target source)) n ∙ live)
asked_stays s own n CloseSession Done live = closes_or_stays s own n (ends_or_stays s own n live)
asked_stays s own n (KillSession number) Done live = kills_or_stays s own number n (ends_or_stays s number n live)
asked_stays s own n CloseSession (Selected rows) live = inr live
asked_stays s own n CloseSession (Locked lock nodes) live = inr live
asked_stays s own n CloseSession (Refused causes) live = inr live
asked_stays s own n (KillSession number) (Selected rows) live = inr live
asked_stays s own n (KillSession number) (Locked lock nodes) live = inr live
asked_stays s own n (KillSession number) (Refused causes) live = inr live
asked_stays s own n (Lock target) Done live = inr live
asked_stays s own n (Lock target) (Selected rows) live = inr live
asked_stays s own n (Lock target) (Locked lock nodes) live = inr live
asked_stays s own n (Lock target) (Refused causes) live = inr live
asked_stays s own n (Unlock target) Done live = inr live
asked_stays s own n (Unlock target) (Selected rows) live = inr live
asked_stays s own n (Unlock target) (Locked lock nodes) live = inr live
asked_stays s own n (Unlock target) (Refused causes) live = inr live
asked_stays s own n (Commit true timeout persist persist_id) Done live = inr live
asked_stays s own n (Commit true timeout persist persist_id) (Selected rows) live = inr live
asked_stays s own n (Commit true timeout persist persist_id) (Locked lock nodes) live = inr live
asked_stays s own n (Commit true timeout persist persist_id) (Refused causes) live = inr live
asked_stays s own n (Commit false timeout persist persist_id) Done live = inr live
asked_stays s own n (Commit false timeout persist persist_id) (Selected rows) live = inr live
asked_stays s own n (Commit false timeout persist persist_id) (Locked lock nodes) live = inr live
asked_stays s own n (Commit false timeout persist persist_id) (Refused causes) live = inr live
asked_stays s own n DiscardChanges Done live = inr live
asked_stays s own n DiscardChanges (Selected rows) live = inr live
asked_stays s own n DiscardChanges (Locked lock nodes) live = inr live
asked_stays s own n DiscardChanges (Refused causes) live = inr live
asked_stays s own n (CancelCommit persist_id) Done live = inr live
asked_stays s own n (CancelCommit persist_id) (Selected rows) live = inr live
asked_stays s own n (CancelCommit persist_id) (Locked lock nodes) live = inr live
asked_stays s own n (CancelCommit persist_id) (Refused causes) live = inr live
asked_stays s own n (PartialLock selects) Done live = inr live
asked_stays s own n (PartialLock selects) (Selected rows) live = inr live
asked_stays s own n (PartialLock selects) (Locked lock nodes) live = inr live
asked_stays s own n (PartialLock selects) (Refused causes) live = inr live
asked_stays s own n (PartialUnlock id) Done live = inr live
asked_stays s own n (PartialUnlock id) (Selected rows) live = inr live
asked_stays s own n (PartialUnlock id) (Locked lock nodes) live = inr live
asked_stays s own n (PartialUnlock id) (Refused causes) live = inr live
asked_stays s own n (Get filter) verdict live = inr live
asked_stays s own n (GetConfig source filter) verdict live = inr live
asked_stays s own n (DeleteConfig target) verdict live = inr live
asked_stays s own n (Validate source) verdict live = inr live

request_stays : (s : State) (own : ℕ) (request : Request) (verdict : Verdict) (reply : Tree) (n : ℕ) (refused : Option Cause) (found : Result Asked Cause) → request.asked ≡ found → is_live s n ≡ true
    → StaysOr s (Requested own request) (Answered verdict reply) n (answered_unless refused s own found verdict)
request_stays s own request verdict reply n (Some cause) found is live = inr live
request_stays s own request verdict reply n None (Err cause) is live = inr live
request_stays s own request verdict reply n None (Ok asked) is live = by (asked_stays s own n asked verdict live)
  where
    by : StaysBy s own n asked verdict → StaysOr s (Requested own request) (Answered verdict reply) n (changed_by s own asked verdict)
    by (inl (ends, is_it)) = inl (ap (ended_by own) is ∙ ends, is_it)
    by (inr on) = inr on

-- whatever comes of an event
stays : (s : State) (event : Event) (outcome : Outcome) (n : ℕ) → is_live s n ≡ true → StaysOr s event outcome n (changed s event outcome)
stays s (Start peer) (Started number) n live =
    inr (list_any-append (λ (x : Session). x.number == n) s.sessions (record { number = number; peer = peer } ∷ [])
    ∙ ap (λ b. b || list_any (λ (x : Session). x.number == n) (record { number = number; peer = peer } ∷ [])) live)
stays s (Start peer) (Full l last) n live = inr live
stays s (Start peer) (Answered verdict reply) n live = inr live
stays s (Start peer) NotLive n live = inr live
stays s (Start peer) Ended n live = inr live
stays s (Start peer) Noted n live = inr live
stays s (Requested own request) (Answered verdict reply) n live =
    request_stays s own request verdict reply n (operation_refused s own request.operation) request.asked refl live
stays s (Requested own request) (Started number) n live = inr live
stays s (Requested own request) (Full l last) n live = inr live
stays s (Requested own request) NotLive n live = inr live
stays s (Requested own request) Ended n live = inr live
stays s (Requested own request) Noted n live = inr live
stays s (End own) Ended n live = by (eqb_tells own n)
  where
    by : (((own == n) ≡ true) × (own ≡ n)) ⊎ (((own == n) ≡ false) × (own ≢ n)) → StaysOr s (End own) Ended n (session_ended s own)
    by (inl (holds, same)) = inl same
    by (inr (fails, differs)) = inr (other_ended s own n differs live)
stays s (End own) (Started number) n live = inr live
stays s (End own) (Full l last) n live = inr live
stays s (End own) (Answered verdict reply) n live = inr live
stays s (End own) NotLive n live = inr live
stays s (End own) Noted n live = inr live
stays s Reading outcome n live = inr live

-- an entry of a live session does not find it dead
finds_live : (s : State) (at : ℕ) (event : Event) (failed : Bool) (n : ℕ) → is_live s n ≡ true → IsOf n event → NotLive ≢ outcome_of (expired s at) event failed
finds_live s at (Start peer) failed n live of is = absurd of
finds_live s at Reading failed n live of is = absurd of
finds_live s at (End own) failed n live of is = by (is_live (expired s at) own) (read_live s at own ∙ ap (is_live s) of ∙ live) is
  where
    by : (b : Bool) → b ≡ true → NotLive ≢ (if b then Ended else NotLive)
    by true holds e = cc
    by false holds e = cc
finds_live s at (Requested own request) failed n live of is =
    let decided = verdict (expired s at) own request failed in
    by (is_live (expired s at) own) decided (reply_of (expired s at).schema (sees_of (expired s at) own) request decided) (read_live s at own ∙ ap (is_live s) of ∙ live) is
  where
    by : (b : Bool) (verdict : Verdict) (reply : Tree) → b ≡ true → NotLive ≢ (if b then Answered verdict reply else NotLive)
    by true verdict reply holds e = cc
    by false verdict reply holds e = cc

abbrev Killer : ℕ → List Entry → Type 0
Killer n between = (killer : Entry) × Contains between killer × EndsSession n killer.event killer.outcome

one_more : (n : ℕ) (e : Entry) (es : List Entry) (t : State) → (is_live t n ≡ true → Killer n es) → StaysOr t e.event e.outcome n t → Killer n (e ∷ es)
one_more n e es t rest (inl ends) = (e, contains_here [] es e, ends)
one_more n e es t rest (inr live) = let found = rest live in (found.0, contains_behind e es found.0 found.1, found.2)

ended_between : (s : State) (n : ℕ) (between : List Entry) (last : Entry) → is_live s n ≡ true → Fits (after s between) last → IsOf n last.event → last.outcome ≡ NotLive → Killer n between
ended_between s n [] last live fits of dead = absurd (finds_live s last.at last.event (has_failed last.outcome) n live of (sym dead ∙ fits.outcome))
ended_between s n (e ∷ es) last live fits of dead =
    one_more n e es (next s e) (λ on. ended_between (next s e) n es last on fits of dead)
    (stays (expired s e.at) e.event e.outcome n (read_live s e.at n ∙ live))

or_true : (b : Bool) → (b || true) ≡ true
or_true true = refl
or_true false = refl

started_live : (s : State) (peer : Peer) (n : ℕ) → is_live (changed s (Start peer) (Started n)) n ≡ true
started_live s peer n =
    let p : Session → Bool = λ x. x.number == n in
    let new : Session = record { number = n; peer = peer } in
    let last : list_any p (new ∷ []) ≡ true = rw (eq-eqb n n refl) refl in
    list_any-append p s.sessions (new ∷ []) ∙ ap (λ b. list_any p s.sessions || b) last ∙ or_true (list_any p s.sessions)

pub is_ended_between : IsEndedBetween
is_ended_between first opening front between start last peer session legal event started of dead =
    let s = after opening front in
    let P : Event → Type 0 = λ v. is_live (changed (expired s start.at) v start.outcome) session ≡ true in
    let Q : Outcome → Type 0 = λ o. is_live (changed (expired s start.at) (Start peer) o) session ≡ true in
    let live = subst P (sym event) (subst Q (sym started) (started_live (expired s start.at) peer session)) in
    let fits = (legal (front ++ start ∷ between) [] last (sym (append_assoc front (start ∷ between) (last ∷ [])))).1 in
    let R : State → Type 0 = λ t. Fits t last in
    ended_between (next s start) session between last live (subst R (histories_join opening front (start ∷ between)) fits) of dead
