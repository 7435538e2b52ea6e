-- The candidate's lock goes with the candidate's changes.
use Rattle.std.proofs.Common.{◌≡◌, ◌⊎◌, ◌==◌, ◌+◌, ℕ, Bool, true, false, not, List, length, refl, sym, subst, ◌∙◌, inl, inr, Option, Some, None, Result, Ok, Err}
use Rattle.std.specs.Prelude.{if◌then◌else◌, is_some, option_map}
use Rattle.nc_names.specs.Same.{is_same_rows}
use Rattle.nc_names.specs.declared.cause.CauseKind.TheVariants.{LockHeld}
use Rattle.nc_names.specs.declared.path.Row.{Row}
use Rattle.nc_protocol.specs.declared.asked.Asked.{Asked}
use Rattle.nc_protocol.specs.declared.asked.Asked.TheVariants.{Get, GetConfig, EditConfig, CopyConfig, DeleteConfig, Lock, Unlock, CloseSession, KillSession, Commit, DiscardChanges, CancelCommit, Validate, PartialLock, PartialUnlock}
use Rattle.nc_protocol.specs.declared.datastore.Datastore.{Datastore}
use Rattle.nc_protocol.specs.declared.datastore.Datastore.TheVariants.{Running, Candidate, Startup, Url}
use Rattle.nc_protocol.specs.declared.request.Cause.{Cause}
use Rattle.nc_protocol.specs.declared.verdict.Verdict.{Verdict}
use Rattle.nc_protocol.specs.declared.verdict.Verdict.TheVariants.{Done, Selected, Locked, Refused}
use Rattle.nc_protocol.specs.Refusals.{checked}
use Rattle.nc_model.specs.declared.event.Event.{Event}
use Rattle.nc_model.specs.declared.event.Event.TheVariants.{Start, Request as Requested, End, Reading}
use Rattle.nc_model.specs.declared.event.Outcome.{Outcome}
use Rattle.nc_model.specs.declared.event.Outcome.TheVariants.{Started, Full, NotLive, Ended}
use Rattle.nc_model.specs.Laws.{LockGoesWithChanges}
use Rattle.nc_model.specs.State.{State, Pending, candidate_in_force, expired, is_due, is_held_by, is_live, left_by_end, read_at, released, reverted, session_ended, unless_held_by, without_session}
use Rattle.nc_model.specs.Step.{answer_to, answered_unless, changed, changed_by, has_failed, is_full, next, outcome_of, rows_of_ok, with_candidate, with_lock}
use Rattle.nc_model.specs.Verdict.{asked_verdict, copied, edits_made, global_lock_cause, lock_checks, lock_refusal, operation_refused, rows_set, verdict_on}
use Rattle.nc_model.proofs.GoodLemmas.{checked_done}
use Rattle.nc_model.proofs.SessionLemmas.{all_none}

-- the session still holds the candidate's lock, or the candidate is unmodified
abbrev HeldOr : ℕ → State → Type 0
HeldOr session t = (t.holders.candidate ≡ Some session) ⊎ (t.candidate ≡ None)

read_held : (s : State) (at session : ℕ) → s.holders.candidate ≡ Some session → (expired s at).holders.candidate ≡ Some session
read_held s at session is = by (is_due (read_at s at))
  where
    by : (due : Bool) → (if due then reverted (read_at s at) else read_at s at).holders.candidate ≡ Some session
    by true = is
    by false = is

candidate_held : (s : State) (rows : Option (List Row)) (session : ℕ) → s.holders.candidate ≡ Some session → HeldOr session (with_candidate s rows)
candidate_held s None session is = inl is
candidate_held s (Some rows) session is = by (is_same_rows rows (candidate_in_force s))
  where
    by : (same : Bool) → HeldOr session (if same then s else record s { candidate = Some rows })
    by true = inl is
    by false = inl is

-- ---- the end of a session
over_held : (s : State) (n session : ℕ) → s.holders.candidate ≡ Some session → HeldOr session (released (without_session s n) n)
over_held s n session is =
    subst (λ (holder : Option ℕ). (unless_held_by n holder ≡ Some session) ⊎ ((if is_held_by n holder then None else s.candidate) ≡ None)) (sym is) (by (session == n))
  where
    by : (own : Bool) → ((if own then None else Some session) ≡ Some session) ⊎ ((if own then None else s.candidate) ≡ None)
    by true = inr refl
    by false = inl refl

left_held : (t : State) (n session : ℕ) (pending : Option Pending) → HeldOr session t → HeldOr session (left_by_end t n pending)
left_held t n session None held = held
left_held t n session (Some pending) held = by (pending.session == n) (is_some pending.token)
  where
    by : (own persists : Bool) → HeldOr session (if not own then t else (if persists then record t { pending = Some (record pending { session = 0 }) } else reverted t))
    by false persists = held
    by true true = held
    by true false = held

ended_held : (s : State) (n session : ℕ) → s.holders.candidate ≡ Some session → HeldOr session (session_ended s n)
ended_held s n session is = left_held (released (without_session s n) n) n session s.pending (over_held s n session is)

-- ---- lock
none_held : (holder : Option ℕ) (f : ℕ → Cause) → option_map f holder ≡ None → holder ≡ None
none_held None f e = refl
none_held (Some number) f e = cc

lock_held : (s : State) (n session : ℕ) (target : Datastore) → lock_refusal s n target ≡ None → s.holders.candidate ≡ Some session → HeldOr session (with_lock s n target)
lock_held s n session Running none is = inl is
lock_held s n session Candidate none is =
    let free : s.holders.candidate ≡ None = none_held s.holders.candidate (global_lock_cause LockHeld Candidate) (all_none (lock_checks s n Candidate) none).1.0 in
    let clash : None ≡ Some session = sym free ∙ is in cc
lock_held s n session Startup none is = inl is
lock_held s n session Url none is = inl is

-- ---- what is asked for
asked_held : (s : State) (n session : ℕ) (asked : Asked) (decided : Verdict) (failed : Bool) → (decided ≡ Done → asked_verdict s n asked failed ≡ Done) → s.holders.candidate ≡ Some session →
    HeldOr session (changed_by s n asked decided)
asked_held s n session (EditConfig target default_operation test on_error config) decided failed due is =
    candidate_held s (rows_set s.schema test (edits_made s n target default_operation on_error config)) session is
asked_held s n session (CopyConfig target source) decided failed due is = candidate_held s (rows_of_ok (copied s n target source)) session is
asked_held s n session (Lock target) Done failed due is = lock_held s n session target (checked_done (lock_refusal s n target) Done (due refl)).0 is
asked_held s n session (Unlock Running) Done failed due is = inl is
asked_held s n session (Unlock Candidate) Done failed due is = inr refl
asked_held s n session (Unlock Startup) Done failed due is = inl is
asked_held s n session (Unlock Url) Done failed due is = inl is
asked_held s n session CloseSession Done failed due is = ended_held s n session is
asked_held s n session (KillSession number) Done failed due is = ended_held s number session is
asked_held s n session (Commit true timeout persist persist_id) Done failed due is = inl is
asked_held s n session (Commit false timeout persist persist_id) Done failed due is = inl is
asked_held s n session DiscardChanges Done failed due is = inl is
asked_held s n session (CancelCommit persist_id) Done failed due is = inl is
asked_held s n session (PartialLock selects) Done failed due is = inl is
asked_held s n session (PartialUnlock id) Done failed due is = inl is
asked_held s n session (Lock target) (Selected rows) failed due is = inl is
asked_held s n session (Lock target) (Locked lock nodes) failed due is = inl is
asked_held s n session (Lock target) (Refused causes) failed due is = inl is
asked_held s n session (Unlock target) (Selected rows) failed due is = inl is
asked_held s n session (Unlock target) (Locked lock nodes) failed due is = inl is
asked_held s n session (Unlock target) (Refused causes) failed due is = inl is
asked_held s n session CloseSession (Selected rows) failed due is = inl is
asked_held s n session CloseSession (Locked lock nodes) failed due is = inl is
asked_held s n session CloseSession (Refused causes) failed due is = inl is
asked_held s n session (KillSession number) (Selected rows) failed due is = inl is
asked_held s n session (KillSession number) (Locked lock nodes) failed due is = inl is
asked_held s n session (KillSession number) (Refused causes) failed due is = inl is
asked_held s n session (Commit true timeout persist persist_id) (Selected rows) failed due is = inl is
asked_held s n session (Commit true timeout persist persist_id) (Locked lock nodes) failed due is = inl is
asked_held s n session (Commit true timeout persist persist_id) (Refused causes) failed due is = inl is
asked_held s n session (Commit false timeout persist persist_id) (Selected rows) failed due is = inl is
asked_held s n session (Commit false timeout persist persist_id) (Locked lock nodes) failed due is = inl is
asked_held s n session (Commit false timeout persist persist_id) (Refused causes) failed due is = inl is
asked_held s n session DiscardChanges (Selected rows) failed due is = inl is
asked_held s n session DiscardChanges (Locked lock nodes) failed due is = inl is
asked_held s n session DiscardChanges (Refused causes) failed due is = inl is
asked_held s n session (CancelCommit persist_id) (Selected rows) failed due is = inl is
asked_held s n session (CancelCommit persist_id) (Locked lock nodes) failed due is = inl is
asked_held s n session (CancelCommit persist_id) (Refused causes) failed due is = inl is
asked_held s n session (PartialLock selects) (Selected rows) failed due is = inl is
asked_held s n session (PartialLock selects) (Locked lock nodes) failed due is = inl is
asked_held s n session (PartialLock selects) (Refused causes) failed due is = inl is
asked_held s n session (PartialUnlock id) (Selected rows) failed due is = inl is
asked_held s n session (PartialUnlock id) (Locked lock nodes) failed due is = inl is
asked_held s n session (PartialUnlock id) (Refused causes) failed due is = inl is
asked_held s n session (Get filter) decided failed due is = inl is
asked_held s n session (GetConfig source filter) decided failed due is = inl is
asked_held s n session (DeleteConfig target) decided failed due is = inl is
asked_held s n session (Validate source) decided failed due is = inl is

request_held : (s : State) (n session : ℕ) (refused : Option Cause) (asked : Result Asked Cause) (failed : Bool) → s.holders.candidate ≡ Some session →
    HeldOr session (answered_unless refused s n asked (checked refused (verdict_on s n asked failed)))
request_held s n session (Some cause) asked failed is = inl is
request_held s n session None (Err cause) failed is = inl is
request_held s n session None (Ok asked) failed is = asked_held s n session asked (asked_verdict s n asked failed) failed (λ e. e) is

event_held : (s : State) (event : Event) (failed : Bool) (session : ℕ) → s.holders.candidate ≡ Some session → HeldOr session (changed s event (outcome_of s event failed))
event_held s (Start peer) failed session is = by (is_full s)
  where
    by : (full : Bool) → HeldOr session (changed s (Start peer) (if full then Full (length s.sessions) s.last else Started (s.last + 1)))
    by true = inl is
    by false = inl is
event_held s (Requested n request) failed session is = by (is_live s n)
  where
    by : (live : Bool) → HeldOr session (changed s (Requested n request) (if live then answer_to s n request failed else NotLive))
    by true = request_held s n session (operation_refused s n request.operation) request.asked failed is
    by false = inl is
event_held s (End n) failed session is = by (is_live s n)
  where
    by : (live : Bool) → HeldOr session (changed s (End n) (if live then Ended else NotLive))
    by true = ended_held s n session is
    by false = inl is
event_held s Reading failed session is = inl is

pub lock_goes_with_changes : LockGoesWithChanges
lock_goes_with_changes s e session fits is gone =
    by (subst (λ (outcome : Outcome). HeldOr session (changed u e.event outcome)) (sym fits.outcome) (event_held u e.event (has_failed e.outcome) session (read_held s e.at session is)))
  where
    u : State
    u = expired s e.at

    by : HeldOr session (changed u e.event e.outcome) → (next s e).candidate ≡ None
    by (inl still) = absurd (gone still)
    by (inr none) = none
