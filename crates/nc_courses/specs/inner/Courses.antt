-- What a request comes to, and what that changes.
use Rattle.std.specs.Prelude.{◌+◌, ◌&&◌, ℕ, Bool, true, false, not, if◌then◌else◌, List, [], ◌∷◌, Option, Some, None, is_some, option_map, Result, Ok, Err}
use Rattle.std.specs.Option.{option_or}
use Rattle.nc_names.specs.declared.cause.CauseKind.TheVariants.{UnsupportedTarget, BadParameter, BadSelect, BadToken, LockHeld, LockModified, LockPending, NoMatch, NotHeld}
use Rattle.nc_message.specs.declared.tree.Elem.{Elem}
use Rattle.nc_names.specs.declared.path.Path.{Path}
use Rattle.nc_names.specs.declared.path.Row.{Row}
use Rattle.nc_schema.specs.Tables.{Tables}
use Rattle.nc_protocol.specs.declared.asked.Asked.{Asked}
use Rattle.nc_protocol.specs.declared.asked.Asked.TheVariants.{Get, GetConfig, EditConfig, CopyConfig, DeleteConfig, Lock, Unlock, CloseSession, KillSession, Commit as AsksCommit, DiscardChanges, CancelCommit, Validate, PartialLock, PartialUnlock}
use Rattle.nc_protocol.specs.declared.asked.Default3.{Default3}
use Rattle.nc_protocol.specs.declared.asked.ErrorOption.{ErrorOption}
use Rattle.nc_protocol.specs.declared.asked.Select.{Select}
use Rattle.nc_protocol.specs.declared.asked.TestOption.{TestOption}
use Rattle.nc_protocol.specs.declared.asked.TestOption.TheVariants.{TestThenSet, Set, TestOnly}
use Rattle.nc_protocol.specs.declared.datastore.Datastore.{Datastore}
use Rattle.nc_protocol.specs.declared.datastore.Datastore.TheVariants.{Running, Candidate as CandidateStore}
use Rattle.nc_protocol.specs.declared.datastore.Origin.{Origin}
use Rattle.nc_protocol.specs.declared.request.Cause.{Cause}
use Rattle.nc_protocol.specs.declared.request.Request.{Request}
use Rattle.nc_protocol.specs.declared.verdict.Verdict.TheVariants.{Done, Selected, Locked, Refused}
use Rattle.nc_protocol.specs.Applied.{Applied}
use Rattle.nc_protocol.specs.Asking.{plain_cause}
use Rattle.nc_protocol.specs.Edited.{cause_where}
use Rattle.nc_model.specs.Access.{rights_of, visible}
use Rattle.nc_model.specs.State.{Pending, State, candidate_in_force, is_held_by, reverted, session_ended}
use Rattle.nc_model.specs.Step.{milliseconds, rows_of_ok, with_candidate, with_holder, with_partial, without_partial}
use Rattle.nc_protocol.specs.Refusals as refusal
use Rattle.nc_model.specs.Verdict as meant
use Rattle.nc_protocol.specs.Words.{source_word}
use Rattle.nc_partial.specs.declared.locks.PartialFault.{PartialFault}
use Rattle.nc_partial.specs.declared.locks.PartialFault.TheVariants.{Memory as NoMemory}
use Rattle.nc_partial.specs.Granted.{lock_given}
use Rattle.nc_partial.specs.Granted as granting
use Rattle.nc_partial.specs.Selects.{nodes_among, paths_of}
use Rattle.nc_pending.specs.Pending as calls
use Rattle.nc_courses.specs.declared.course.Change.{Change}
use Rattle.nc_courses.specs.declared.course.Change.TheVariants.{Nothing, Candidate, Discard, Grant, Release, Confirm, Revert, Over, GrantNodes, ReleaseNodes}
use Rattle.nc_courses.specs.declared.course.Course.{Course}
use Rattle.nc_courses.specs.declared.course.Course.TheVariants.{Answer, Commit}

-- the candidate is set to rows, or nothing is changed
abbrev pub changed_to : Option (List Row) → Change
changed_to None = Nothing
changed_to (Some rows) = Candidate rows

-- what is set of rows that edits leave, where they have a violation or not
abbrev pub change_by : TestOption → Bool → List Row → Change
change_by Set violated rows = Candidate rows
change_by TestThenSet violated rows = if violated then Nothing else Candidate rows
change_by TestOnly violated rows = Nothing

-- the violation that is looked for in them
abbrev pub violation_by : Tables → TestOption → List Row → Option Cause
violation_by tables Set rows = None
violation_by tables test rows = refusal.violation_in tables rows

-- refused for one cause, which changes nothing
abbrev pub refused_course : Cause → Course
refused_course cause = Answer (Refused (cause ∷ [])) Nothing

-- what edits come to, by what they leave and why some are refused, or why none is made
unfoldable pub edit_course : Tables → TestOption → Result Applied Cause → Course
edit_course tables test made =
    Answer (meant.edit_verdict tables test made) (changed_to (meant.rows_set tables test made))

-- why source and target are no pair, if so
abbrev pub same_store : Datastore → Origin → Option Cause
same_store target source =
    cause_where (meant.is_same_store target source) (plain_cause BadParameter (source_word ∷ []))

-- why they are none for a copy, whatever the state
abbrev pub unfit : Datastore → Origin → Option Cause
unfit target source =
    option_or (meant.unsupported meant.is_target target)
    (option_or (meant.unsupported_origin source) (same_store target source))

-- why nothing is copied, before the source is read
abbrev pub uncopied : State → ℕ → Datastore → Origin → Option Cause
uncopied s session target source = option_or (unfit target source) (meant.in_use s session CandidateStore)

-- why no edit is made, before the payload is read
abbrev pub unedited : State → ℕ → Datastore → Option Cause
unedited s session target =
    option_or (meant.unsupported meant.is_target target) (meant.in_use s session CandidateStore)

-- why a lock is not granted: a session holds it
abbrev pub held_refusal : State → Datastore → Option Cause
held_refusal s target = option_map (meant.global_lock_cause LockHeld target) (meant.holder_of s.holders target)

-- or it is the candidate's, which is modified
abbrev pub modified_refusal : State → Datastore → Option Cause
modified_refusal s target = cause_where (meant.is_candidate target && is_some s.candidate) (plain_cause LockModified [])

-- or another session has a pending commit or a partial lock
abbrev pub running_opposed : State → ℕ → Option Cause
running_opposed s session = option_or (meant.pending_of_other session s.pending) (meant.partly_locked s session)

-- so it is where it is running's
abbrev pub running_refusal : State → ℕ → Datastore → Option Cause
running_refusal s session target =
    option_or (if meant.is_running target then meant.pending_of_other session s.pending else None)
    (if meant.is_running target then meant.partly_locked s session else None)

-- why a session gets no lock of a datastore
abbrev pub lock_refused : State → ℕ → Datastore → Option Cause
lock_refused s session target =
    option_or (meant.unsupported meant.is_source target)
    (option_or (held_refusal s target) (option_or (modified_refusal s target) (running_refusal s session target)))

-- why a lock is not released: the session does not hold it
abbrev pub not_held : State → ℕ → Datastore → Option Cause
not_held s session target =
    cause_where (not (is_held_by session (meant.holder_of s.holders target)))
    (plain_cause NotHeld (refusal.datastore_name target ∷ []))

-- why a session does not release the lock of a datastore
abbrev pub unlock_refused : State → ℕ → Datastore → Option Cause
unlock_refused s session target = option_or (meant.unsupported meant.is_source target) (not_held s session target)

-- where none is pending, no `persist-id` is right
abbrev pub token_refusal : Option (List ℕ) → Option Cause
token_refusal given = cause_where (is_some given) (plain_cause BadToken [])

-- why a session may not commit, whatever the candidate holds
abbrev pub commit_hindrance : State → ℕ → Option (List ℕ) → Option Cause
commit_hindrance s session persist_id =
    option_or (meant.commit_admission s session persist_id)
    (option_or (meant.in_use s session Running) (meant.in_use s session CandidateStore))

-- why it may not change what a commit changes
abbrev pub changes_refusal : State → ℕ → Option Cause
changes_refusal s session =
    option_or (meant.in_use_partial s session (meant.commit_changes s))
    (meant.changes_denied (rights_of s session) (meant.commit_changes s))

-- why the candidate is not made running
abbrev pub candidate_refusal : State → Option Cause
candidate_refusal s =
    option_or (refusal.violation_in s.schema (candidate_in_force s)) (meant.record_refusal s)

-- why a commit is refused
abbrev pub commit_refused : State → ℕ → Option (List ℕ) → Option Cause
commit_refused s session persist_id =
    option_or (commit_hindrance s session persist_id) (option_or (changes_refusal s session) (candidate_refusal s))

-- why it may not change back what a confirmed commit has changed
abbrev pub reversion_refusal : State → ℕ → Option Cause
reversion_refusal s session = meant.in_use_partial s session (meant.cancel_changes s)

-- why nothing is cancelled
abbrev pub cancel_refused : State → ℕ → Option (List ℕ) → Option Cause
cancel_refused s session persist_id =
    option_or (meant.cancel_admission s session persist_id)
    (option_or (meant.in_use s session Running) (reversion_refusal s session))

-- what a copy comes to: the candidate is set to the source's rows, or it is refused
abbrev pub copy_course : Result (List Row) Cause → Course
copy_course copied = Answer (meant.done_where copied) (changed_to (rows_of_ok copied))

-- what a confirmed commit comes to that nothing stands against
abbrev pub confirmed_course : State → ℕ → Option (List ℕ) → Course
confirmed_course s timeout persist = Answer Done (Confirm (candidate_in_force s) timeout persist)

-- what any commit comes to that nothing stands against, whether it has to be confirmed or not
abbrev pub commit_made : State → Bool → ℕ → Option (List ℕ) → Course
commit_made s false timeout persist = Commit
commit_made s true timeout persist = confirmed_course s timeout persist

-- what is made of a request, unless a check fails
abbrev pub unless_refused : Option Cause → Course → Course
unless_refused None made = made
unless_refused (Some cause) made = refused_course cause

-- done with that change, unless a check fails
abbrev pub done_unless : Option Cause → Change → Course
done_unless None change = Answer Done change
done_unless (Some cause) change = refused_course cause

-- ---- partial locks

-- why no node is locked, whichever they are: a commit is pending, or a session holds running's lock
abbrev pub partly_hindered : State → Option Cause
partly_hindered s =
    option_or (option_map (meant.pending_cause LockPending) s.pending) (held_refusal s Running)

-- what nodes come to, by what is told of them: they are locked, or that is refused
abbrev pub told_course : List Path → Result ℕ PartialFault → Course
told_course nodes (Ok lock) = Answer (Locked lock nodes) (GrantNodes nodes)
told_course nodes (Err fault) = done_unless (granting.refusal (Err fault)) Nothing

-- what the nodes that exist come to
abbrev pub nodes_course : State → ℕ → List Path → Course
nodes_course s session nodes =
    if meant.is_none_of nodes then refused_course (plain_cause NoMatch [])
    else told_course nodes (lock_given s session nodes)

-- what the nodes that selects name come to, where each select names one
abbrev pub selects_course : State → ℕ → Option (List Path) → Course
selects_course s session None = refused_course (plain_cause BadSelect [])
selects_course s session (Some paths) =
    nodes_course s session (nodes_among s.schema (visible s session s.running) paths)

-- each operation; the words are opaque, so that what is made of several of them stays short

-- get: of running what the session sees and the filter keeps
unfoldable pub get_course : State → ℕ → Option Elem → Course
get_course s session filter = Answer (Selected (meant.shown s session Running filter)) Nothing

-- get-config: refused, or the same of a datastore
unfoldable pub get_config_course : State → ℕ → Datastore → Option Elem → Course
get_config_course s session source filter =
    Answer (refusal.checked (meant.unsupported meant.is_source source)
    (Selected (meant.shown s session source filter))) Nothing

-- edit-config: what the edits of its payload come to
unfoldable pub edit_config_course : State → ℕ → Datastore → Default3 → TestOption → ErrorOption → Elem → Course
edit_config_course s session target default_operation test on_error config =
    edit_course s.schema test (meant.edits_made s session target default_operation on_error config)

-- copy-config: what the copy of its source comes to
unfoldable pub copy_config_course : State → ℕ → Datastore → Origin → Course
copy_config_course s session target source = copy_course (meant.copied s session target source)

-- commit: refused, or made
unfoldable pub commit_asked_course : State → ℕ → Bool → ℕ → Option (List ℕ) → Option (List ℕ) → Course
commit_asked_course s session confirmed timeout persist persist_id =
    unless_refused (commit_refused s session persist_id) (commit_made s confirmed timeout persist)

-- cancel-commit: refused, or the pending commit is reverted
unfoldable pub cancel_course : State → ℕ → Option (List ℕ) → Course
cancel_course s session persist_id = done_unless (cancel_refused s session persist_id) Revert

-- discard-changes: refused, or the candidate is running again
unfoldable pub discard_course : State → ℕ → Course
discard_course s session = done_unless (meant.in_use s session CandidateStore) Discard

-- lock: refused, or the session gets the datastore's lock
unfoldable pub lock_course : State → ℕ → Datastore → Course
lock_course s session target = done_unless (lock_refused s session target) (Grant target)

-- unlock: refused, or the datastore's lock is released
unfoldable pub unlock_course : State → ℕ → Datastore → Course
unlock_course s session target = done_unless (unlock_refused s session target) (Release target)

-- kill-session: refused, or the session of that number is over
unfoldable pub kill_course : State → ℕ → ℕ → Course
kill_course s session number = done_unless (meant.kill_refusal s session number) (Over number)

-- partial-lock: refused, or what the nodes that its selects name come to
unfoldable pub partial_lock_course : State → ℕ → List Select → Course
partial_lock_course s session selects =
    unless_refused (partly_hindered s) (selects_course s session (paths_of s.schema selects))

-- partial-unlock: refused, or the partial lock of that number is released
unfoldable pub partial_unlock_course : State → ℕ → ℕ → Course
partial_unlock_course s session lock =
    done_unless (meant.partial_unlock_refusal s session lock) (ReleaseNodes lock)

-- validate: whether the rows of its source keep the schema's rules, which changes nothing
unfoldable pub validate_course : State → Origin → Course
validate_course s source = Answer (meant.validated s.schema (meant.rows_to_validate s source)) Nothing

-- why no datastore is deleted, whichever it is
abbrev pub unoffered_cause : Datastore → Cause
unoffered_cause store = plain_cause UnsupportedTarget (refusal.datastore_name store ∷ [])

-- what is asked for
unfoldable pub asked_course : State → ℕ → Asked → Course
asked_course s session (Get filter) = get_course s session filter
asked_course s session (GetConfig source filter) = get_config_course s session source filter
asked_course s session (EditConfig target default_operation test on_error config) =
    edit_config_course s session target default_operation test on_error config
asked_course s session (CopyConfig target source) = copy_config_course s session target source
asked_course s session (DeleteConfig target) = refused_course (unoffered_cause target)
asked_course s session (Lock target) = lock_course s session target
asked_course s session (Unlock target) = unlock_course s session target
asked_course s session CloseSession = Answer Done (Over session)
asked_course s session (KillSession number) = kill_course s session number
asked_course s session (AsksCommit confirmed timeout persist persist_id) =
    commit_asked_course s session confirmed timeout persist persist_id
asked_course s session (CancelCommit persist_id) = cancel_course s session persist_id
asked_course s session DiscardChanges = discard_course s session
asked_course s session (Validate source) = validate_course s source
asked_course s session (PartialLock selects) = partial_lock_course s session selects
asked_course s session (PartialUnlock lock) = partial_unlock_course s session lock

-- what a request comes to as it was read: refused for what is wrong with it, or what it asks for
abbrev pub course_on : State → ℕ → Result Asked Cause → Course
course_on s session (Err cause) = refused_course cause
course_on s session (Ok asked) = asked_course s session asked

-- what a live session's request comes to
unfoldable pub course : State → ℕ → Request → Course
course s session request =
    unless_refused (meant.operation_refused s session request.operation) (course_on s session request.asked)

-- the session has the lock, unless one holds it
unfoldable pub granted : State → ℕ → Datastore → State
granted s session target = record s {
  holders =
      if is_some (meant.holder_of s.holders target) then s.holders else with_holder s.holders target (Some session);
}

-- the lock is released, if the session holds it; a candidate is unmodified then
unfoldable pub unlocked : State → ℕ → Datastore → State
unlocked s session target = record s {
  holders =
      if is_held_by session (meant.holder_of s.holders target) then with_holder s.holders target None else s.holders;
  candidate = if meant.is_candidate target then None else s.candidate;
}

-- memory was wanted: every other refusal is told before
abbrev pub wants_memory : Result ℕ PartialFault → Bool
wants_memory (Err NoMemory) = true
wants_memory told = false

-- the session has one partial lock more, where it gets one
abbrev pub with_given : State → ℕ → List Path → Result ℕ PartialFault → State
with_given s session nodes (Ok lock) = with_partial s session lock nodes
with_given s session nodes (Err fault) = s

-- the session gets a partial lock of these nodes, unless that is refused
unfoldable pub partly_granted : State → ℕ → List Path → State
partly_granted s session nodes = with_given s session nodes (lock_given s session nodes)

-- the partial lock is released, if it is the session's
unfoldable pub partly_released : State → ℕ → ℕ → State
partly_released s session lock = if meant.has_lock s session lock then without_partial s lock else s

-- whether the end of a session reverts the pending commit
abbrev pub is_reverted_by : Option Pending → ℕ → Bool
is_reverted_by None number = false
is_reverted_by (Some pending) number = calls.is_reverted_by pending number

-- and what it leaves of it
abbrev pub left_of : Option Pending → ℕ → Option Pending
left_of None number = None
left_of (Some pending) number = Some (calls.left_of pending number)

-- what a confirmed commit makes of the pending one, where `before` is running before it
abbrev pub pending_from : Option Pending → List Row → ℕ → Option (List ℕ) → ℕ → Pending
pending_from None before deadline token session =
    record { base = before; deadline = deadline; token = token; session = session }
pending_from (Some pending) before deadline token session = calls.followed pending deadline token session

-- rows are running, and wait to be confirmed
unfoldable pub confirming : State → ℕ → List Row → ℕ → Option (List ℕ) → State
confirming s session rows timeout persist = record s {
  running = rows;
  candidate = None;
  pending = Some (pending_from s.pending s.running (s.now + milliseconds timeout) persist session);
}

-- the state, changed
unfoldable pub made : State → ℕ → Change → State
made s session Nothing = s
made s session (Candidate rows) = with_candidate s (Some rows)
made s session Discard = record s { candidate = None }
made s session (Grant target) = granted s session target
made s session (Release target) = unlocked s session target
made s session (Confirm rows timeout persist) = confirming s session rows timeout persist
made s session Revert = reverted s
made s session (Over number) = session_ended s number
made s session (GrantNodes nodes) = partly_granted s session nodes
made s session (ReleaseNodes lock) = partly_released s session lock
