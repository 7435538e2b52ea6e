-- An entry that starts no session leaves the last session-id as it is.
use Rattle.std.proofs.Common.{◌≡◌, ◌==◌, ◌+◌, ℕ, Bool, true, false, List, [], ◌∷◌, refl, sym, ap, subst, ◌∙◌, Option, Some, None, Result, Ok, Err}
use Rattle.std.specs.Prelude.{if◌then◌else◌, is_some, length, not}
use Rattle.std.specs.List.{All}
use Rattle.std.proofs.lemmas.List.Elements.{All-head, All-tail}
use Rattle.nc_names.specs.declared.path.Row.{Row}
use Rattle.nc_names.specs.Same.{is_same_rows}
use Rattle.nc_protocol.specs.declared.asked.Asked.{Asked}
use Rattle.nc_protocol.specs.declared.asked.Asked.TheVariants.{Get, GetConfig, EditConfig, CopyConfig, DeleteConfig, Lock, Unlock, CloseSession, KillSession, Commit, DiscardChanges, CancelCommit, Validate, PartialLock, PartialUnlock}
use Rattle.nc_protocol.specs.declared.peer.Peer.{Peer}
use Rattle.nc_protocol.specs.declared.request.Cause.{Cause}
use Rattle.nc_protocol.specs.declared.request.Request.{Request}
use Rattle.nc_protocol.specs.declared.verdict.Verdict.{Verdict}
use Rattle.nc_protocol.specs.declared.verdict.Verdict.TheVariants.{Done, Selected, Locked, Refused}
use Rattle.nc_model.specs.History.{after}
use Rattle.nc_model.specs.Laws.{IsOf}
use Rattle.nc_model.specs.State.{State, Pending, candidate_in_force, expired, is_due, left_by_end, read_at, released, reverted, session_ended, without_session}
use Rattle.nc_model.specs.Step.{Fits, answered_unless, changed, changed_by, has_failed, is_full, next, outcome_of, rows_of_ok, with_candidate}
use Rattle.nc_model.specs.Verdict.{copied, edits_made, operation_refused, rows_set}
use Rattle.nc_model.specs.declared.entry.Entry.{Entry}
use Rattle.nc_model.specs.declared.event.Event.{Event}
use Rattle.nc_model.specs.declared.event.Event.TheVariants.{Start, Request as Requested, End as Ending, Reading as ClockRead}
use Rattle.nc_model.specs.declared.event.Outcome.{Outcome}
use Rattle.nc_model.specs.declared.event.Outcome.TheVariants.{Started, Full as IsFull, Answered, NotLive, Ended, Noted}

-- ---- what an event changes
abbrev over : State → ℕ → State
over s own = released (without_session s own) own

left_last : (s : State) (own : ℕ) (pending : Option Pending) → (left_by_end (over s own) own pending).last ≡ s.last
left_last s own None = refl
left_last s own (Some pending) = by (pending.session == own) (is_some pending.token)
  where
    by : (mine persists : Bool) → (if not mine then over s own else (if persists then record (over s own) { pending = Some (record pending { session = 0 }) } else reverted (over s own))).last ≡ s.last
    by false persists = refl
    by true true = refl
    by true false = refl

ended_last : (s : State) (own : ℕ) → (session_ended s own).last ≡ s.last
ended_last s own = left_last s own s.pending

candidate_last : (s : State) (rows : Option (List Row)) → (with_candidate s rows).last ≡ s.last
candidate_last s None = refl
candidate_last s (Some rows) = by (is_same_rows rows (candidate_in_force s))
  where
    by : (same : Bool) → (if same then s else record s { candidate = Some rows }).last ≡ s.last
    by true = refl
    by false = refl

read_last : (s : State) (at : ℕ) → (expired s at).last ≡ s.last
read_last s at = by (is_due (read_at s at))
  where
    by : (due : Bool) → (if due then reverted (read_at s at) else read_at s at).last ≡ s.last
    by true = refl
    by false = refl

asked_last : (s : State) (own : ℕ) (asked : Asked) (verdict : Verdict) → (changed_by s own asked verdict).last ≡ s.last
asked_last s own (EditConfig target default_operation test on_error config) verdict =
    candidate_last s (rows_set s.schema test (edits_made s own target default_operation on_error config))
asked_last s own (CopyConfig target source) verdict = candidate_last s (rows_of_ok (copied s own target source))
asked_last s own CloseSession Done = ended_last s own
asked_last s own (KillSession number) Done = ended_last s number
asked_last s own CloseSession (Selected rows) = refl
asked_last s own CloseSession (Locked lock nodes) = refl
asked_last s own CloseSession (Refused causes) = refl
asked_last s own (KillSession number) (Selected rows) = refl
asked_last s own (KillSession number) (Locked lock nodes) = refl
asked_last s own (KillSession number) (Refused causes) = refl
asked_last s own (Lock target) Done = refl
asked_last s own (Lock target) (Selected rows) = refl
asked_last s own (Lock target) (Locked lock nodes) = refl
asked_last s own (Lock target) (Refused causes) = refl
asked_last s own (Unlock target) Done = refl
asked_last s own (Unlock target) (Selected rows) = refl
asked_last s own (Unlock target) (Locked lock nodes) = refl
asked_last s own (Unlock target) (Refused causes) = refl
asked_last s own (Commit true timeout persist persist_id) Done = refl
asked_last s own (Commit true timeout persist persist_id) (Selected rows) = refl
asked_last s own (Commit true timeout persist persist_id) (Locked lock nodes) = refl
asked_last s own (Commit true timeout persist persist_id) (Refused causes) = refl
asked_last s own (Commit false timeout persist persist_id) Done = refl
asked_last s own (Commit false timeout persist persist_id) (Selected rows) = refl
asked_last s own (Commit false timeout persist persist_id) (Locked lock nodes) = refl
asked_last s own (Commit false timeout persist persist_id) (Refused causes) = refl
asked_last s own DiscardChanges Done = refl
asked_last s own DiscardChanges (Selected rows) = refl
asked_last s own DiscardChanges (Locked lock nodes) = refl
asked_last s own DiscardChanges (Refused causes) = refl
asked_last s own (CancelCommit persist_id) Done = refl
asked_last s own (CancelCommit persist_id) (Selected rows) = refl
asked_last s own (CancelCommit persist_id) (Locked lock nodes) = refl
asked_last s own (CancelCommit persist_id) (Refused causes) = refl
asked_last s own (PartialLock selects) Done = refl
asked_last s own (PartialLock selects) (Selected rows) = refl
asked_last s own (PartialLock selects) (Locked lock nodes) = refl
asked_last s own (PartialLock selects) (Refused causes) = refl
asked_last s own (PartialUnlock id) Done = refl
asked_last s own (PartialUnlock id) (Selected rows) = refl
asked_last s own (PartialUnlock id) (Locked lock nodes) = refl
asked_last s own (PartialUnlock id) (Refused causes) = refl
asked_last s own (Get filter) verdict = refl
asked_last s own (GetConfig source filter) verdict = refl
asked_last s own (DeleteConfig target) verdict = refl
asked_last s own (Validate source) verdict = refl

answered_last : (s : State) (own : ℕ) (verdict : Verdict) (refused : Option Cause) (found : Result Asked Cause)
    → (answered_unless refused s own found verdict).last ≡ s.last
answered_last s own verdict (Some cause) found = refl
answered_last s own verdict None (Err cause) = refl
answered_last s own verdict None (Ok asked) = asked_last s own asked verdict

-- an event of a session
changed_last : (s : State) (event : Event) (outcome : Outcome) (n : ℕ) → IsOf n event → (changed s event outcome).last ≡ s.last
changed_last s (Start peer) outcome n of = absurd of
changed_last s ClockRead outcome n of = absurd of
changed_last s (Requested own request) (Answered verdict reply) n of =
    answered_last s own verdict (operation_refused s own request.operation) request.asked
changed_last s (Requested own request) (Started number) n of = refl
changed_last s (Requested own request) (IsFull l last) n of = refl
changed_last s (Requested own request) NotLive n of = refl
changed_last s (Requested own request) Ended n of = refl
changed_last s (Requested own request) Noted n of = refl
changed_last s (Ending own) Ended n of = ended_last s own
changed_last s (Ending own) (Started number) n of = refl
changed_last s (Ending own) (IsFull l last) n of = refl
changed_last s (Ending own) (Answered verdict reply) n of = refl
changed_last s (Ending own) NotLive n of = refl
changed_last s (Ending own) Noted n of = refl

next_last : (s : State) (e : Entry) (n : ℕ) → IsOf n e.event → (next s e).last ≡ s.last
next_last s e n of = changed_last (expired s e.at) e.event e.outcome n of ∙ read_last s e.at

-- entries of one session
pub kept_last : (s : State) (group : List Entry) (n : ℕ) → All (λ e. IsOf n e.event) group → (after s group).last ≡ s.last
kept_last s [] n all = refl
kept_last s (e ∷ group) n all =
    kept_last (next s e) group n (All-tail (λ x. IsOf n x.event) e group all)
    ∙ next_last s e n (All-head (λ x. IsOf n x.event) e group all)

-- a reading of the clock
pub noted_last : (s : State) (e : Entry) → e.event ≡ ClockRead → (next s e).last ≡ s.last
noted_last s e is =
    subst (λ v. (changed (expired s e.at) v e.outcome).last ≡ s.last) (sym is) (read_last s e.at)

-- a session that is not started
pub full_last : (s : State) (e : Entry) (peer : Peer) (live last : ℕ) → e.event ≡ Start peer → e.outcome ≡ IsFull live last
    → (next s e).last ≡ s.last
full_last s e peer live last event out =
    subst (λ v. (changed (expired s e.at) v e.outcome).last ≡ s.last) (sym event)
    (subst (λ o. (changed (expired s e.at) (Start peer) o).last ≡ s.last) (sym out) (read_last s e.at))

-- one that is started has the next session-id, which is then the last
given : (s : State) (peer : Peer) (failed : Bool) (number : ℕ) → Started number ≡ outcome_of s (Start peer) failed
    → number ≡ s.last + 1
given s peer failed number is = by (is_full s) is
  where
    by : (full : Bool) → Started number ≡ (if full then IsFull (length s.sessions) s.last else Started (s.last + 1))
        → number ≡ s.last + 1
    by true same = absurd (cc same)
    by false same = cc same

pub started_next : (s : State) (e : Entry) (peer : Peer) (number : ℕ) → Fits s e → e.event ≡ Start peer
    → e.outcome ≡ Started number → number ≡ s.last + 1
started_next s e peer number fits event out =
    let made : Started number ≡ outcome_of (expired s e.at) e.event (has_failed e.outcome) = sym out ∙ fits.outcome in
    given (expired s e.at) peer (has_failed e.outcome) number
    (subst (λ v. Started number ≡ outcome_of (expired s e.at) v (has_failed e.outcome)) event made)
    ∙ ap (λ n. n + 1) (read_last s e.at)

pub started_last : (s : State) (e : Entry) (peer : Peer) (number : ℕ) → e.event ≡ Start peer → e.outcome ≡ Started number
    → (next s e).last ≡ number
started_last s e peer number event out =
    subst (λ v. (changed (expired s e.at) v e.outcome).last ≡ number) (sym event)
    (subst (λ o. (changed (expired s e.at) (Start peer) o).last ≡ number) (sym out) refl)
