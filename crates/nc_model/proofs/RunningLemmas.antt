-- By what running changes, and what comes back after a restart.
use Rattle.std.proofs.Common.{◌≡◌, ◌⊎◌, ◌==◌, ℕ, Bool, true, false, not, List, refl, sym, ap, subst, ◌∙◌, inl, inr, Option, Some, None, Result, Ok, Err}
use Rattle.std.specs.Prelude.{if◌then◌else◌, is_some}
use Rattle.std.specs.Option.{option_map_or}
use Rattle.std.proofs.lemmas.Bool.{eqb-true}
use Rattle.nc_names.specs.Same.{is_same_rows}
use Rattle.nc_names.specs.declared.path.Row.{Row}
use Rattle.nc_message.specs.declared.tree.Tree.{Tree}
use Rattle.nc_protocol.specs.declared.asked.Asked.{Asked}
use Rattle.nc_protocol.specs.declared.asked.Asked.TheVariants.{Get, GetConfig, EditConfig, CopyConfig, DeleteConfig, Lock, Unlock, CloseSession, KillSession, Commit, DiscardChanges, CancelCommit, Validate, PartialLock, PartialUnlock}
use Rattle.nc_protocol.specs.declared.request.Cause.{Cause}
use Rattle.nc_protocol.specs.declared.request.Request.{Request}
use Rattle.nc_protocol.specs.declared.verdict.Verdict.{Verdict}
use Rattle.nc_protocol.specs.declared.verdict.Verdict.TheVariants.{Done, Selected, Locked, Refused}
use Rattle.nc_model.specs.declared.event.Event.{Event}
use Rattle.nc_model.specs.declared.event.Event.TheVariants.{Start, Request as Requested, End, Reading}
use Rattle.nc_model.specs.declared.event.Outcome.{Outcome}
use Rattle.nc_model.specs.declared.event.Outcome.TheVariants.{Started, Full, Answered, NotLive, Ended, Noted}
use Rattle.nc_model.specs.Laws.{ChangesRunning, by_commit, by_cancel, by_end, by_deadline, CommitAloneChangesBase, EndsSession, IsDoneOf, IsPendingAlone, RunningChangesByFew, asks_cancel, ended_by}
use Rattle.nc_model.specs.State.{State, Pending, base_of, candidate_in_force, expired, is_due, left_by_end, read_at, released, reverted, session_ended, without_session}
use Rattle.nc_model.specs.Step.{appends_record, answered_unless, changed, changed_by, is_commit, next, with_candidate, rows_of_ok}
use Rattle.nc_model.specs.Verdict.{edits_made, operation_refused, rows_set, copied}

-- ---- the clock
pub read_base : (s : State) (at : ℕ) → base_of (expired s at) ≡ base_of s
read_base s at = by (is_due (read_at s at))
  where
    by : (due : Bool) → base_of (if due then reverted (read_at s at) else read_at s at) ≡ base_of s
    by true = refl
    by false = refl

-- before the time of the pending commit is over, the clock alone changes
pub read_alone : (s : State) (at : ℕ) → (expired s at ≡ read_at s at) ⊎ (is_due (read_at s at) ≡ true)
read_alone s at = by (is_due (read_at s at)) refl
  where
    by : (due : Bool) → is_due (read_at s at) ≡ due → ((if due then reverted (read_at s at) else read_at s at) ≡ read_at s at) ⊎ (is_due (read_at s at) ≡ true)
    by true is = inr is
    by false is = inl refl

-- ---- the candidate
candidate_running : (s : State) (rows : Option (List Row)) → (with_candidate s rows).running ≡ s.running
candidate_running s None = refl
candidate_running s (Some rows) = by (is_same_rows rows (candidate_in_force s))
  where
    by : (same : Bool) → (if same then s else record s { candidate = Some rows }).running ≡ s.running
    by true = refl
    by false = refl

pub candidate_base : (s : State) (rows : Option (List Row)) → base_of (with_candidate s rows) ≡ base_of s
candidate_base s None = refl
candidate_base s (Some rows) = by (is_same_rows rows (candidate_in_force s))
  where
    by : (same : Bool) → base_of (if same then s else record s { candidate = Some rows }) ≡ base_of s
    by true = refl
    by false = refl

-- ---- the end of a session
abbrev over : State → ℕ → State
over s n = released (without_session s n) n

left_base : (s : State) (n : ℕ) (pending : Option Pending) → s.pending ≡ pending → base_of (left_by_end (over s n) n pending) ≡ base_of s
left_base s n None is = refl
left_base s n (Some pending) is = by (pending.session == n) (is_some pending.token)
  where
    by : (own persists : Bool) → base_of (if not own then over s n else (if persists then record (over s n) { pending = Some (record pending { session = 0 }) } else reverted (over s n))) ≡ base_of s
    by false persists = refl
    by true true = sym (ap (λ (p : Option Pending). option_map_or (λ found. found.base) p s.running) is)
    by true false = refl

pub ended_base : (s : State) (n : ℕ) → base_of (session_ended s n) ≡ base_of s
ended_base s n = left_base s n s.pending refl

none_of : (token : Option (List ℕ)) → is_some token ≡ false → token ≡ None
none_of None e = refl
none_of (Some token) e = cc

left_running : (s : State) (n : ℕ) (pending : Option Pending) → s.pending ≡ pending → ((left_by_end (over s n) n pending).running ≡ s.running) ⊎ IsPendingAlone n pending
left_running s n None is = inl refl
left_running s n (Some pending) is = by (pending.session == n) refl (is_some pending.token) refl
  where
    by : (own : Bool) → (pending.session == n) ≡ own → (persists : Bool) → is_some pending.token ≡ persists →
        ((if not own then over s n else (if persists then record (over s n) { pending = Some (record pending { session = 0 }) } else reverted (over s n))).running ≡ s.running)
        ⊎ IsPendingAlone n (Some pending)
    by false other persists token = inl refl
    by true own true token = inl refl
    by true own false token = inr (eqb-true pending.session n own, none_of pending.token token)

ended_running : (s : State) (n : ℕ) → ((session_ended s n).running ≡ s.running) ⊎ IsPendingAlone n s.pending
ended_running s n = left_running s n s.pending refl

-- ---- what comes back after a restart
abbrev BaseOr : State → State → Event → Outcome → Type 0
BaseOr s t event outcome = (base_of t ≡ base_of s) ⊎ IsDoneOf appends_record event outcome

asked_base : (s : State) (own : ℕ) (request : Request) (reply : Tree) (asked : Asked) (verdict : Verdict) → request.asked ≡ Ok asked →
    BaseOr s (changed_by s own asked verdict) (Requested own request) (Answered verdict reply)
asked_base s own request reply (EditConfig target default_operation test on_error config) verdict is = inl (candidate_base s (rows_set s.schema test (edits_made s own target default_operation on_error config)))
asked_base s own request reply (CopyConfig target source) verdict is = inl (candidate_base s (rows_of_ok (copied s own target source)))
asked_base s own request reply (Lock target) Done is = inl refl
asked_base s own request reply (Lock target) (Selected rows) is = inl refl
asked_base s own request reply (Lock target) (Locked lock nodes) is = inl refl
asked_base s own request reply (Lock target) (Refused causes) is = inl refl
asked_base s own request reply (Unlock target) Done is = inl refl
asked_base s own request reply (Unlock target) (Selected rows) is = inl refl
asked_base s own request reply (Unlock target) (Locked lock nodes) is = inl refl
asked_base s own request reply (Unlock target) (Refused causes) is = inl refl
asked_base s own request reply CloseSession Done is = inl (ended_base s own)
asked_base s own request reply CloseSession (Selected rows) is = inl refl
asked_base s own request reply CloseSession (Locked lock nodes) is = inl refl
asked_base s own request reply CloseSession (Refused causes) is = inl refl
asked_base s own request reply (KillSession number) Done is = inl (ended_base s number)
asked_base s own request reply (KillSession number) (Selected rows) is = inl refl
asked_base s own request reply (KillSession number) (Locked lock nodes) is = inl refl
asked_base s own request reply (KillSession number) (Refused causes) is = inl refl
asked_base s own request reply (Commit true timeout persist persist_id) Done is = inl refl
asked_base s own request reply (Commit true timeout persist persist_id) (Selected rows) is = inl refl
asked_base s own request reply (Commit true timeout persist persist_id) (Locked lock nodes) is = inl refl
asked_base s own request reply (Commit true timeout persist persist_id) (Refused causes) is = inl refl
asked_base s own request reply (Commit false timeout persist persist_id) Done is = inr (ap appends_record is, refl)
asked_base s own request reply (Commit false timeout persist persist_id) (Selected rows) is = inl refl
asked_base s own request reply (Commit false timeout persist persist_id) (Locked lock nodes) is = inl refl
asked_base s own request reply (Commit false timeout persist persist_id) (Refused causes) is = inl refl
asked_base s own request reply DiscardChanges Done is = inl refl
asked_base s own request reply DiscardChanges (Selected rows) is = inl refl
asked_base s own request reply DiscardChanges (Locked lock nodes) is = inl refl
asked_base s own request reply DiscardChanges (Refused causes) is = inl refl
asked_base s own request reply (CancelCommit persist_id) Done is = inl refl
asked_base s own request reply (CancelCommit persist_id) (Selected rows) is = inl refl
asked_base s own request reply (CancelCommit persist_id) (Locked lock nodes) is = inl refl
asked_base s own request reply (CancelCommit persist_id) (Refused causes) is = inl refl
asked_base s own request reply (PartialLock selects) Done is = inl refl
asked_base s own request reply (PartialLock selects) (Selected rows) is = inl refl
asked_base s own request reply (PartialLock selects) (Locked lock nodes) is = inl refl
asked_base s own request reply (PartialLock selects) (Refused causes) is = inl refl
asked_base s own request reply (PartialUnlock id) Done is = inl refl
asked_base s own request reply (PartialUnlock id) (Selected rows) is = inl refl
asked_base s own request reply (PartialUnlock id) (Locked lock nodes) is = inl refl
asked_base s own request reply (PartialUnlock id) (Refused causes) is = inl refl
asked_base s own request reply (Get filter) verdict is = inl refl
asked_base s own request reply (GetConfig source filter) verdict is = inl refl
asked_base s own request reply (DeleteConfig target) verdict is = inl refl
asked_base s own request reply (Validate source) verdict is = inl refl

request_base : (s : State) (own : ℕ) (request : Request) (reply : Tree) (verdict : Verdict) (refused : Option Cause) (found : Result Asked Cause) → request.asked ≡ found →
    BaseOr s (answered_unless refused s own found verdict) (Requested own request) (Answered verdict reply)
request_base s own request reply verdict (Some cause) found is = inl refl
request_base s own request reply verdict None (Err cause) is = inl refl
request_base s own request reply verdict None (Ok asked) is = asked_base s own request reply asked verdict is

event_base : (s : State) (event : Event) (outcome : Outcome) → BaseOr s (changed s event outcome) event outcome
event_base s (Requested own request) (Answered verdict reply) =
    request_base s own request reply verdict (operation_refused s own request.operation) request.asked refl
event_base s (Requested own request) (Started number) = inl refl
event_base s (Requested own request) (Full live last) = inl refl
event_base s (Requested own request) NotLive = inl refl
event_base s (Requested own request) Ended = inl refl
event_base s (Requested own request) Noted = inl refl
event_base s (Start peer) (Started number) = inl refl
event_base s (Start peer) (Full live last) = inl refl
event_base s (Start peer) (Answered verdict reply) = inl refl
event_base s (Start peer) NotLive = inl refl
event_base s (Start peer) Ended = inl refl
event_base s (Start peer) Noted = inl refl
event_base s (End own) Ended = inl (ended_base s own)
event_base s (End own) (Started number) = inl refl
event_base s (End own) (Full live last) = inl refl
event_base s (End own) (Answered verdict reply) = inl refl
event_base s (End own) NotLive = inl refl
event_base s (End own) Noted = inl refl
event_base s Reading outcome = inl refl

pub commit_alone_changes_base : CommitAloneChangesBase
commit_alone_changes_base s e = by (event_base (expired s e.at) e.event e.outcome)
  where
    by : BaseOr (expired s e.at) (changed (expired s e.at) e.event e.outcome) e.event e.outcome → (base_of (next s e) ≡ base_of s) ⊎ IsDoneOf appends_record e.event e.outcome
    by (inl same) = inl (same ∙ read_base s e.at)
    by (inr done) = inr done

-- ---- running
-- the entry ends the session of a pending commit that does not persist
abbrev EndsPending : State → Event → Outcome → Type 0
EndsPending s event outcome = (session : ℕ) × EndsSession session event outcome × IsPendingAlone session s.pending

-- running is as before, or was changed by one of the three
pub data RunningOr (s t : State) (event : Event) (outcome : Outcome) : Type 0 where
  as_before : t.running ≡ s.running → RunningOr s t event outcome
  committed : IsDoneOf is_commit event outcome → RunningOr s t event outcome
  cancelled : IsDoneOf asks_cancel event outcome → RunningOr s t event outcome
  ended : EndsPending s event outcome → RunningOr s t event outcome

-- the end of a session by an entry that ends it
by_ended : (s : State) (n : ℕ) (event : Event) (outcome : Outcome) → EndsSession n event outcome → RunningOr s (session_ended s n) event outcome
by_ended s n event outcome ends = by (ended_running s n)
  where
    by : ((session_ended s n).running ≡ s.running) ⊎ IsPendingAlone n s.pending → RunningOr s (session_ended s n) event outcome
    by (inl same) = as_before same
    by (inr alone) = ended (n, ends, alone)

asked_running : (s : State) (own : ℕ) (request : Request) (reply : Tree) (asked : Asked) (verdict : Verdict) → request.asked ≡ Ok asked →
    RunningOr s (changed_by s own asked verdict) (Requested own request) (Answered verdict reply)
asked_running s own request reply (EditConfig target default_operation test on_error config) verdict is = as_before (candidate_running s (rows_set s.schema test (edits_made s own target default_operation on_error config)))
asked_running s own request reply (CopyConfig target source) verdict is = as_before (candidate_running s (rows_of_ok (copied s own target source)))
asked_running s own request reply (Lock target) Done is = as_before refl
asked_running s own request reply (Lock target) (Selected rows) is = as_before refl
asked_running s own request reply (Lock target) (Locked lock nodes) is = as_before refl
asked_running s own request reply (Lock target) (Refused causes) is = as_before refl
asked_running s own request reply (Unlock target) Done is = as_before refl
asked_running s own request reply (Unlock target) (Selected rows) is = as_before refl
asked_running s own request reply (Unlock target) (Locked lock nodes) is = as_before refl
asked_running s own request reply (Unlock target) (Refused causes) is = as_before refl
asked_running s own request reply CloseSession Done is = by_ended s own (Requested own request) (Answered Done reply) (ap (ended_by own) is, refl)
asked_running s own request reply CloseSession (Selected rows) is = as_before refl
asked_running s own request reply CloseSession (Locked lock nodes) is = as_before refl
asked_running s own request reply CloseSession (Refused causes) is = as_before refl
asked_running s own request reply (KillSession number) Done is = by_ended s number (Requested own request) (Answered Done reply) (ap (ended_by own) is, refl)
asked_running s own request reply (KillSession number) (Selected rows) is = as_before refl
asked_running s own request reply (KillSession number) (Locked lock nodes) is = as_before refl
asked_running s own request reply (KillSession number) (Refused causes) is = as_before refl
asked_running s own request reply (Commit true timeout persist persist_id) Done is = committed (ap is_commit is, refl)
asked_running s own request reply (Commit true timeout persist persist_id) (Selected rows) is = as_before refl
asked_running s own request reply (Commit true timeout persist persist_id) (Locked lock nodes) is = as_before refl
asked_running s own request reply (Commit true timeout persist persist_id) (Refused causes) is = as_before refl
asked_running s own request reply (Commit false timeout persist persist_id) Done is = committed (ap is_commit is, refl)
asked_running s own request reply (Commit false timeout persist persist_id) (Selected rows) is = as_before refl
asked_running s own request reply (Commit false timeout persist persist_id) (Locked lock nodes) is = as_before refl
asked_running s own request reply (Commit false timeout persist persist_id) (Refused causes) is = as_before refl
asked_running s own request reply DiscardChanges Done is = as_before refl
asked_running s own request reply DiscardChanges (Selected rows) is = as_before refl
asked_running s own request reply DiscardChanges (Locked lock nodes) is = as_before refl
asked_running s own request reply DiscardChanges (Refused causes) is = as_before refl
asked_running s own request reply (CancelCommit persist_id) Done is = cancelled (ap asks_cancel is, refl)
asked_running s own request reply (CancelCommit persist_id) (Selected rows) is = as_before refl
asked_running s own request reply (CancelCommit persist_id) (Locked lock nodes) is = as_before refl
asked_running s own request reply (CancelCommit persist_id) (Refused causes) is = as_before refl
asked_running s own request reply (PartialLock selects) Done is = as_before refl
asked_running s own request reply (PartialLock selects) (Selected rows) is = as_before refl
asked_running s own request reply (PartialLock selects) (Locked lock nodes) is = as_before refl
asked_running s own request reply (PartialLock selects) (Refused causes) is = as_before refl
asked_running s own request reply (PartialUnlock id) Done is = as_before refl
asked_running s own request reply (PartialUnlock id) (Selected rows) is = as_before refl
asked_running s own request reply (PartialUnlock id) (Locked lock nodes) is = as_before refl
asked_running s own request reply (PartialUnlock id) (Refused causes) is = as_before refl
asked_running s own request reply (Get filter) verdict is = as_before refl
asked_running s own request reply (GetConfig source filter) verdict is = as_before refl
asked_running s own request reply (DeleteConfig target) verdict is = as_before refl
asked_running s own request reply (Validate source) verdict is = as_before refl

request_running : (s : State) (own : ℕ) (request : Request) (reply : Tree) (verdict : Verdict) (refused : Option Cause) (found : Result Asked Cause) → request.asked ≡ found →
    RunningOr s (answered_unless refused s own found verdict) (Requested own request) (Answered verdict reply)
request_running s own request reply verdict (Some cause) found is = as_before refl
request_running s own request reply verdict None (Err cause) is = as_before refl
request_running s own request reply verdict None (Ok asked) is = asked_running s own request reply asked verdict is

event_running : (s : State) (event : Event) (outcome : Outcome) → RunningOr s (changed s event outcome) event outcome
event_running s (Requested own request) (Answered verdict reply) =
    request_running s own request reply verdict (operation_refused s own request.operation) request.asked refl
event_running s (Requested own request) (Started number) = as_before refl
event_running s (Requested own request) (Full live last) = as_before refl
event_running s (Requested own request) NotLive = as_before refl
event_running s (Requested own request) Ended = as_before refl
event_running s (Requested own request) Noted = as_before refl
event_running s (Start peer) (Started number) = as_before refl
event_running s (Start peer) (Full live last) = as_before refl
event_running s (Start peer) (Answered verdict reply) = as_before refl
event_running s (Start peer) NotLive = as_before refl
event_running s (Start peer) Ended = as_before refl
event_running s (Start peer) Noted = as_before refl
event_running s (End own) Ended = by_ended s own (End own) Ended refl
event_running s (End own) (Started number) = as_before refl
event_running s (End own) (Full live last) = as_before refl
event_running s (End own) (Answered verdict reply) = as_before refl
event_running s (End own) NotLive = as_before refl
event_running s (End own) Noted = as_before refl
event_running s Reading outcome = as_before refl

pub running_changes_by_few : RunningChangesByFew
running_changes_by_few s e = by (read_alone s e.at)
  where
    after : (u : State) → u ≡ read_at s e.at → RunningOr u (changed u e.event e.outcome) e.event e.outcome → ((changed u e.event e.outcome).running ≡ s.running) ⊎ ChangesRunning s e
    after u is (as_before same) = inl (same ∙ ap (λ (t : State). t.running) is)
    after u is (committed done) = inr (by_commit done)
    after u is (cancelled done) = inr (by_cancel done)
    after u is (ended (session, ends, alone)) = inr (by_end session ends (subst (λ (t : State). IsPendingAlone session t.pending) is alone))

    by : (expired s e.at ≡ read_at s e.at) ⊎ (is_due (read_at s e.at) ≡ true) → ((next s e).running ≡ s.running) ⊎ ChangesRunning s e
    by (inl is) = after (expired s e.at) is (event_running (expired s e.at) e.event e.outcome)
    by (inr due) = inr (by_deadline due)
