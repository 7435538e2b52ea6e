-- One event: what comes of it, and what state it leaves (RFC 6241 4, 7, 8.3 and 8.4; RFC 5717 2.4).
use Rattle.std.specs.Prelude.{◌≡◌, ◌≤◌, ◌+◌, ◌*◌, ◌==◌, ◌&&◌, ◌||◌, ℕ, Bool, true, false, not, if◌then◌else◌, List, [], ◌∷◌, ◌++◌, length, Option, Some, None, option_and_then, Result, Ok, Err}
use Rattle.std.specs.List.{filter, list_any}
use Rattle.std.specs.Option.{option_or}
use Rattle.nc_names.specs.Counts.{Rose}
use Rattle.nc_names.specs.Same.{is_same_rows}
use Rattle.nc_names.specs.declared.cause.CauseKind.{CauseKind}
use Rattle.nc_names.specs.declared.cause.CauseKind.TheVariants.{DiskFault}
use Rattle.nc_names.specs.declared.path.Path.{Path}
use Rattle.nc_names.specs.declared.path.Row.{Row}
use Rattle.nc_protocol.specs.declared.asked.Asked.{Asked}
use Rattle.nc_protocol.specs.declared.asked.Asked.TheVariants.{EditConfig, CopyConfig, Lock, Unlock, CloseSession, KillSession, Commit, DiscardChanges, CancelCommit, PartialLock, PartialUnlock}
use Rattle.nc_model.specs.declared.entry.Entry.{Entry}
use Rattle.nc_model.specs.declared.event.Event.{Event}
use Rattle.nc_model.specs.declared.event.Event.TheVariants.{Start, Request as Requested, End, Reading}
use Rattle.nc_model.specs.declared.event.Outcome.{Outcome}
use Rattle.nc_model.specs.declared.event.Outcome.TheVariants.{Started, Full, Answered, NotLive, Ended, Noted}
use Rattle.nc_protocol.specs.declared.request.Cause.{Cause}
use Rattle.nc_protocol.specs.declared.request.Request.{Request}
use Rattle.nc_protocol.specs.declared.verdict.Verdict.{Verdict}
use Rattle.nc_protocol.specs.declared.datastore.Datastore.{Datastore}
use Rattle.nc_protocol.specs.declared.datastore.Datastore.TheVariants.{Running, Candidate}
use Rattle.nc_protocol.specs.declared.verdict.Verdict.TheVariants.{Done, Locked, Refused}
use Rattle.nc_model.specs.Access.{sees_of}
use Rattle.nc_model.specs.ProperEvents.{IsProperEvent}
use Rattle.nc_protocol.specs.Reply.{reply_of}
use Rattle.nc_model.specs.State.{State, Holders, Pending, base_of, candidate_in_force, expired, is_live, reverted, session_ended, most_sessions, last_session_id}
use Rattle.nc_model.specs.Verdict.{verdict, edits_made, rows_set, copied, is_candidate, operation_refused}

-- a fault of the disk
abbrev pub is_of_disk : CauseKind → Bool
is_of_disk DiskFault = true
is_of_disk kind = false

-- the disk failed
abbrev pub has_disk_fault : Verdict → Bool
has_disk_fault (Refused causes) = list_any (λ cause. is_of_disk cause.kind) causes
has_disk_fault verdict = false

-- what came of an event is a fault of the disk
abbrev pub has_failed : Outcome → Bool
has_failed (Answered verdict reply) = has_disk_fault verdict
has_failed outcome = false

-- no session can be started
abbrev pub is_full : State → Bool
is_full s = length s.sessions == most_sessions || s.last == last_session_id

-- what comes of a live session's request, where the disk fails or not
abbrev pub answer_to : State → ℕ → Request → Bool → Outcome
answer_to s session request failed =
    let decided =
    verdict s session request failed in Answered decided (reply_of s.schema (sees_of s session) request decided)

-- what comes of an event
abbrev pub outcome_of : State → Event → Bool → Outcome
outcome_of s (Start peer) failed = if is_full s then Full (length s.sessions) s.last else Started (s.last + 1)
outcome_of s (Requested session request) failed =
    if is_live s session then answer_to s session request failed else NotLive
outcome_of s (End session) failed = if is_live s session then Ended else NotLive
outcome_of s Reading failed = Noted

-- an outcome of a Start: the session is live, or there is no place for it
abbrev pub is_of_start : Outcome → Bool
is_of_start (Started session) = true
is_of_start (Full live last) = true
is_of_start outcome = false

-- an outcome of a request: it is answered, or its session is not live
abbrev pub is_of_request : Outcome → Bool
is_of_request (Answered verdict reply) = true
is_of_request NotLive = true
is_of_request outcome = false

-- an outcome that may come of an event, in whatever state
abbrev pub may_come_of : Event → Outcome → Bool
may_come_of (Start peer) outcome = is_of_start outcome
may_come_of (Requested session request) outcome = is_of_request outcome
may_come_of (End session) Ended = true
may_come_of (End session) NotLive = true
may_come_of Reading Noted = true
may_come_of event outcome = false

-- the operation is done
abbrev pub is_done : Verdict → Bool
is_done Done = true
is_done verdict = false

-- an operation that, done, writes the new running configuration to the disk: a commit that is not confirmed (RFC
-- 6241 8.3.4.1; a confirmed one of 8.4.5.1 is written once it is confirmed)
abbrev pub appends_record : Result Asked Cause → Bool
appends_record (Ok (Commit confirmed timeout persist persist_id)) = not confirmed
appends_record asked = false

-- a commit is asked for (RFC 6241 8.3.4.1)
abbrev pub is_commit : Result Asked Cause → Bool
is_commit (Ok (Commit confirmed timeout persist persist_id)) = true
is_commit asked = false

-- the event is such an operation that nothing but the disk can make fail
abbrev pub reaches_disk : State → Event → Bool
reaches_disk s (Requested session request) =
    is_live s session && appends_record request.asked && is_done (verdict s session request false)
reaches_disk s event = false

-- the count of faults rises at a failed commit, never falls, and is the same where the disk is not reached
abbrev pub CountsFaults : Bool → Bool → ℕ → ℕ → Type 0
CountsFaults true true before now = Rose before now
CountsFaults true false before now = before ≤ now
CountsFaults false failed before now = now ≡ before

-- an entry is what may come of its event in a state. The clock is read first
pub record Fits (s : State) (e : Entry) : Type 0 where
  pub proper : IsProperEvent e.event
  pub outcome : e.outcome ≡ outcome_of (expired s e.at) e.event (has_failed e.outcome)
  pub before : e.faults_before ≡ s.faults
  pub faults : CountsFaults (reaches_disk (expired s e.at) e.event)
      (has_failed e.outcome) e.faults_before e.faults_after

-- the candidate gets rows, if any: it is as before where these are its own
abbrev pub with_candidate : State → Option (List Row) → State
with_candidate s None = s
with_candidate s (Some rows) =
    if is_same_rows rows (candidate_in_force s) then s else record s { candidate = Some rows }

-- the rows, where there is no cause
abbrev pub rows_of_ok : Result (List Row) Cause → Option (List Row)
rows_of_ok (Ok rows) = Some rows
rows_of_ok (Err cause) = None

-- the locks where a datastore's is held so
abbrev pub with_holder : Holders → Datastore → Option ℕ → Holders
with_holder holders Running holder = record holders { running = holder }
with_holder holders Candidate holder = record holders { candidate = holder }
with_holder holders store holder = holders

-- the session holds the lock of the datastore (RFC 6241 7.5)
abbrev pub with_lock : State → ℕ → Datastore → State
with_lock s session target = record s { holders = with_holder s.holders target (Some session) }

-- no session holds it: the changes of a candidate that is unlocked are discarded (RFC 6241 7.6, 8.3.5.2)
abbrev pub without_lock : State → Datastore → State
without_lock s target = record s {
  holders = with_holder s.holders target None;
  candidate = if is_candidate target then None else s.candidate;
}

-- the clock's readings are in milliseconds, and `confirm-timeout` is in seconds (RFC 6241 8.4.5.1)
abbrev pub milliseconds : ℕ → ℕ
milliseconds seconds = 1000 * seconds

-- the pending commit of a confirmed one: a follow-up keeps the base, and the text of `persist` unless it gives another
-- (RFC 6241 8.4.1, 8.4.5.1)
abbrev pub pending_by : State → ℕ → ℕ → Option (List ℕ) → Pending
pending_by s session timeout persist = record {
  base = base_of s;
  deadline = s.now + milliseconds timeout;
  token = option_or persist (option_and_then (λ pending. pending.token) s.pending);
  session = session;
}

-- the candidate is running and unmodified; a confirmed commit waits to be confirmed, and any other one leaves none that
-- does (RFC 6241 8.3.4.1, 8.4.1)
abbrev pub committed : State → Option Pending → State
committed s pending = record s { running = candidate_in_force s; candidate = None; pending = pending }

-- the session has one partial lock more (RFC 5717 2.4.1)
abbrev pub with_partial : State → ℕ → ℕ → List Path → State
with_partial s session lock nodes = record s {
  partial = s.partial ++ record { id = lock; session = session; nodes = nodes } ∷ [];
  last_lock = lock;
}

-- the partial lock is released (RFC 5717 2.4.2)
abbrev pub without_partial : State → ℕ → State
without_partial s lock = record s { partial = filter (λ held. not (held.id == lock)) s.partial }

-- what an operation changes, by the verdict on it (RFC 6241 7.2, 7.3, 7.5, 7.6, 7.8, 7.9, 8.3.4, 8.4.4 and 8.4.5; RFC
-- 5717 2.4). Edits that are made before one is refused stay, as the error-option says
abbrev pub changed_by : State → ℕ → Asked → Verdict → State
changed_by s session (EditConfig target default_operation test on_error config) verdict =
    with_candidate s (rows_set s.schema test (edits_made s session target default_operation on_error config))
changed_by s session (CopyConfig target source) verdict = with_candidate s (rows_of_ok (copied s session target source))
changed_by s session (Lock target) Done = with_lock s session target
changed_by s session (Unlock target) Done = without_lock s target
changed_by s session CloseSession Done = session_ended s session
changed_by s session (KillSession number) Done = session_ended s number
changed_by s session (Commit true timeout persist persist_id) Done =
    committed s (Some (pending_by s session timeout persist))
changed_by s session (Commit false timeout persist persist_id) Done = committed s None
changed_by s session DiscardChanges Done = record s { candidate = None }
changed_by s session (CancelCommit persist_id) Done = reverted s
changed_by s session (PartialLock selects) (Locked lock nodes) = with_partial s session lock nodes
changed_by s session (PartialUnlock lock) Done = without_partial s lock
changed_by s session asked verdict = s

-- the state after a request, by the verdict on it
abbrev pub answered : State → ℕ → Result Asked Cause → Verdict → State
answered s session (Err cause) verdict = s
answered s session (Ok asked) verdict = changed_by s session asked verdict

-- the same, where the operation is not refused before its parameters are looked at: then nothing is changed
abbrev pub answered_unless : Option Cause → State → ℕ → Result Asked Cause → Verdict → State
answered_unless (Some cause) s session asked verdict = s
answered_unless None s session asked verdict = answered s session asked verdict

-- what an event changes, by what came of it
abbrev pub changed : State → Event → Outcome → State
changed s (Start peer) (Started number) =
    record s { sessions = s.sessions ++ record { number = number; peer = peer } ∷ []; last = number }
changed s (Requested session request) (Answered verdict reply) =
    answered_unless (operation_refused s session request.operation) s session request.asked verdict
changed s (End session) Ended = session_ended s session
changed s event outcome = s

-- the state after an entry
abbrev pub next : State → Entry → State
next s e = record (changed (expired s e.at) e.event e.outcome) { faults = e.faults_after }
