-- The verdict on a request: the first check that fails refuses it (RFC 6241 7 and 8; RFC 5717 2.4; RFC 8341 3.4).
use Rattle.std.specs.Prelude.{◌==◌, ◌+◌, ◌&&◌, ◌||◌, ℕ, Bool, true, false, not, if◌then◌else◌, nat_lt, List, [], ◌∷◌, ◌++◌, length, map, Option, Some, None, is_some, option_map, option_and_then, Result, Ok, Err}
use Rattle.std.specs.Fmt.{decimal}
use Rattle.std.specs.List.{filter, filter_map, find, list_all, list_any}
use Rattle.std.specs.Option.{option_map_or, option_or, option_to_list}
use Rattle.nc_names.specs.Same.{is_at_or_below, is_same_path, is_same_text}
use Rattle.nc_names.specs.declared.cause.CauseKind.{CauseKind}
use Rattle.nc_names.specs.declared.cause.CauseKind.TheVariants.{ExecDenied, BadParameter, UnsupportedTarget, LockHeld, LockModified, LockPending, LockPartial, NotHeld, InUseGlobal, InUsePartial, InUsePending, NoPending, BadToken, NotLiveTarget, BadSelect, NoMatch, Limit, DataDenied, DiskFault}
use Rattle.nc_names.specs.declared.name.Bound.{Bound}
use Rattle.nc_names.specs.declared.path.Path.{Path}
use Rattle.nc_names.specs.declared.path.Right.{Right}
use Rattle.nc_names.specs.declared.path.Right.TheVariants.{Create as MayCreate, Update as MayUpdate, Delete as MayDelete, Exec}
use Rattle.nc_names.specs.declared.path.Row.{Row}
use Rattle.nc_message.specs.declared.tree.Elem.{Elem}
use Rattle.nc_schema.specs.Blocks.{at_node}
use Rattle.nc_schema.specs.InstancePaths.{instance_path}
use Rattle.nc_schema.specs.Kinds.{is_plain_container}
use Rattle.nc_schema.specs.Record.{record_size}
use Rattle.nc_names.specs.Limits.{body_limit}
use Rattle.nc_schema.specs.Standing.{exists, has_row}
use Rattle.nc_schema.specs.Tables.{Tables}
use Rattle.nc_schema.specs.Values.{canonical, canonical_steps}
use Rattle.nc_protocol.specs.declared.access.Decision.{Decision}
use Rattle.nc_protocol.specs.declared.asked.Asked.{Asked}
use Rattle.nc_protocol.specs.declared.asked.Asked.TheVariants.{Get, GetConfig, EditConfig, CopyConfig, DeleteConfig, Lock, Unlock, CloseSession, KillSession, Commit, DiscardChanges, CancelCommit, Validate, PartialLock, PartialUnlock}
use Rattle.nc_protocol.specs.declared.asked.Default3.{Default3}
use Rattle.nc_protocol.specs.declared.asked.ErrorOption.{ErrorOption}
use Rattle.nc_protocol.specs.declared.asked.Operation.{Operation}
use Rattle.nc_protocol.specs.declared.asked.Select.{Select}
use Rattle.nc_protocol.specs.declared.asked.TestOption.{TestOption}
use Rattle.nc_protocol.specs.declared.asked.TestOption.TheVariants.{TestThenSet, Set, TestOnly}
use Rattle.nc_protocol.specs.declared.changes.Changes.{Changes}
use Rattle.nc_protocol.specs.declared.datastore.Datastore.{Datastore}
use Rattle.nc_protocol.specs.declared.datastore.Datastore.TheVariants.{Running, Candidate}
use Rattle.nc_protocol.specs.declared.datastore.Origin.{Origin}
use Rattle.nc_protocol.specs.declared.datastore.Origin.TheVariants.{Store, Inline}
use Rattle.nc_protocol.specs.declared.edit.Edit.{Edit}
use Rattle.nc_protocol.specs.declared.request.Cause.{Cause}
use Rattle.nc_protocol.specs.declared.request.Request.{Request}
use Rattle.nc_protocol.specs.declared.verdict.Verdict.{Verdict}
use Rattle.nc_protocol.specs.declared.verdict.Verdict.TheVariants.{Done, Selected, Locked, Refused}
use Rattle.nc_protocol.specs.Applied.{Applied, applied}
use Rattle.nc_protocol.specs.Asking.{plain_cause}
use Rattle.nc_protocol.specs.Changes.{changes_between}
use Rattle.nc_protocol.specs.Edited.{cause_at, cause_where, decision_names, first_cause}
use Rattle.nc_protocol.specs.Filter.{selected}
use Rattle.nc_protocol.specs.Payload.{edits_of, rows_of}
use Rattle.nc_protocol.specs.Refusals.{checked, datastore_name, done_unless, refused_for, result_unless, violation_in}
use Rattle.nc_protocol.specs.Words.{source_word, lock_id_word}
use Rattle.nc_model.specs.Access.{exec_of, rights_of, visible}
use Rattle.nc_model.specs.State.{State, Holders, NodeLock, Pending, base_of, candidate_in_force, is_held_by, is_live, last_lock_id, locks_of, locks_some, most_locks}
use Rattle.nc_model.specs.Words.{partial_locks_word, lock_ids_word, record_word}

-- the record of a configuration is larger than the server keeps
abbrev pub is_too_large : List Row → Bool
is_too_large rows = nat_lt body_limit (record_size rows)

-- ---- locks in the way

-- the session that holds the lock of a datastore (RFC 6241 7.5)
abbrev pub holder_of : Holders → Datastore → Option ℕ
holder_of holders Running = holders.running
holder_of holders Candidate = holders.candidate
holder_of holders store = None

-- a cause that names a locked datastore and the session that holds its lock
abbrev pub global_lock_cause : CauseKind → Datastore → ℕ → Cause
global_lock_cause kind store number = plain_cause kind (datastore_name store ∷ decimal number ∷ [])

-- a cause that names a partial lock and the session that holds it
abbrev pub partial_lock_cause : CauseKind → NodeLock → Cause
partial_lock_cause kind lock = plain_cause kind (decimal lock.id ∷ decimal lock.session ∷ [])

-- a cause that names the session of the pending commit, 0 where it has ended
abbrev pub pending_cause : CauseKind → Pending → Cause
pending_cause kind pending = plain_cause kind (decimal pending.session ∷ [])

-- another session holds the lock of the datastore (`in-use`, RFC 6241 appendix A)
abbrev pub in_use : State → ℕ → Datastore → Option Cause
in_use s session store =
    option_and_then (λ other. cause_where (not (other == session)) (global_lock_cause InUseGlobal store other))
    (holder_of s.holders store)

-- of the partial locks of other sessions that pass a test the one with the lowest lock-id
abbrev pub lock_of_other : State → ℕ → (NodeLock → Bool) → Option NodeLock
lock_of_other s session test = find (λ lock. not (lock.session == session) && test lock) s.partial

-- a partial lock locks a node: it is one of its nodes or below one (RFC 5717 2.1)
abbrev pub covers_path : Path → NodeLock → Bool
covers_path path lock = list_any (λ node. is_at_or_below node.steps path) lock.nodes

-- another session's partial lock locks the node (`in-use`, RFC 5717 2.5)
abbrev pub in_use_at : State → ℕ → Path → Option Cause
in_use_at s session path =
    option_map (partial_lock_cause InUsePartial) (lock_of_other s session (covers_path path))

-- so it is with the first such node that changes delete, update or create
abbrev pub in_use_partial : State → ℕ → Changes → Option Cause
in_use_partial s session changes =
    first_cause (map (in_use_at s session) (changes.deleted ++ changes.updated ++ changes.created))

-- ---- get and get-config

-- the datastores that are read: running and candidate (RFC 6241 8.3)
abbrev pub is_source : Datastore → Bool
is_source Running = true
is_source Candidate = true
is_source store = false

-- the datastore that is written: the candidate alone (RFC 6241 8.3; without 8.2, 8.7 and 8.8)
abbrev pub is_target : Datastore → Bool
is_target Candidate = true
is_target store = false

-- the datastore is not offered (`operation-not-supported`, RFC 6241 appendix A)
abbrev pub unsupported : (Datastore → Bool) → Datastore → Option Cause
unsupported is_offered store =
    cause_where (not (is_offered store)) (plain_cause UnsupportedTarget (datastore_name store ∷ []))

-- the source is a datastore that is not offered
abbrev pub unsupported_origin : Origin → Option Cause
unsupported_origin (Store store) = unsupported is_source store
unsupported_origin (Inline config) = None

-- the configuration of a datastore
abbrev pub stored : State → Datastore → List Row
stored s Candidate = candidate_in_force s
stored s store = s.running

-- the rows that a filter keeps; without a filter all (RFC 6241 6.4.1)
abbrev pub filtered : Tables → Option Elem → List Row → List Row
filtered tables None rows = rows
filtered tables (Some filter) rows = selected tables filter rows

-- get and get-config: of the rows that the session sees those that the filter keeps (RFC 6241 6, 7.1, 7.7;
-- RFC 8341 3.2.4)
abbrev pub shown : State → ℕ → Datastore → Option Elem → List Row
shown s session store filter = filtered s.schema filter (visible s session (stored s store))

-- ---- edit-config

-- edit-config (RFC 6241 7.2): the edits are made on the candidate in force, as the error-option says
abbrev pub made_by : State → ℕ → ErrorOption → Result (List Edit) Cause → Result Applied Cause
made_by s session on_error (Err cause) = Err cause
made_by s session on_error (Ok edits) =
    Ok (applied s.schema (rights_of s session) on_error (candidate_in_force s) edits)

-- what is looked at before the edits (RFC 6241 7.2, 7.5)
abbrev pub edit_checks : State → ℕ → Datastore → List (Option Cause)
edit_checks s session target = unsupported is_target target ∷ in_use s session Candidate ∷ []

-- why no edit is made, or what the edits leave and why some of them are refused
abbrev pub edits_made : State → ℕ → Datastore → Default3 → ErrorOption → Elem → Result Applied Cause
edits_made s session target default_operation on_error config =
    result_unless (first_cause (edit_checks s session target))
    (made_by s session on_error (edits_of s.schema default_operation config))

-- the test-option: why what the edits leave is not valid, where it is tested (RFC 6241 7.2, 8.6.5.1)
abbrev pub causes_of_test : Tables → TestOption → List Row → List Cause
causes_of_test tables Set rows = []
causes_of_test tables test rows = option_to_list (violation_in tables rows)

-- the verdict on edits: refused for those that were refused, and for the first violation where it is tested
-- (RFC 6241 7.2)
abbrev pub edit_verdict : Tables → TestOption → Result Applied Cause → Verdict
edit_verdict tables test (Err cause) = Refused (cause ∷ [])
edit_verdict tables test (Ok made) = done_unless (made.causes ++ causes_of_test tables test made.rows)

-- the rows, where they are valid
abbrev pub rows_tested : Tables → List Row → Option (List Row)
rows_tested tables rows = if is_some (violation_in tables rows) then None else Some rows

-- the rows that the candidate gets by the test-option, if any (RFC 6241 7.2)
abbrev pub rows_set : Tables → TestOption → Result Applied Cause → Option (List Row)
rows_set tables test (Err cause) = None
rows_set tables Set (Ok made) = Some made.rows
rows_set tables TestThenSet (Ok made) = rows_tested tables made.rows
rows_set tables TestOnly (Ok made) = None

-- ---- copy-config

-- the first of these paths to which the right is denied (RFC 8341 3.4.5)
abbrev pub denied_among : (Path → Right → Decision) → Right → List Path → Option Cause
denied_among rights right paths =
    option_map (λ path. cause_at DataDenied path (decision_names right (rights path right).by))
    (find (λ path. not (rights path right).permit) paths)

-- the first change that is denied: of those that delete, then of those that update and that create (RFC 8341
-- 3.4.5)
abbrev pub changes_denied : (Path → Right → Decision) → Changes → Option Cause
changes_denied rights changes =
    option_or (denied_among rights MayDelete changes.deleted)
    (option_or (denied_among rights MayUpdate changes.updated) (denied_among rights MayCreate changes.created))

-- the source is the target, which is refused (RFC 6241 7.3)
abbrev pub is_same_store : Datastore → Origin → Bool
is_same_store Candidate (Store Candidate) = true
is_same_store target source = false

-- the configuration of a source, of a datastore what the session sees (RFC 6241 7.3; RFC 8341 3.2.6)
abbrev pub rows_copied : State → ℕ → Origin → Result (List Row) Cause
rows_copied s session (Store store) = Ok (visible s session (stored s store))
rows_copied s session (Inline config) = rows_of s.schema config

-- the rows, unless a change from the candidate to them is denied
abbrev pub unless_denied : State → ℕ → Result (List Row) Cause → Result (List Row) Cause
unless_denied s session (Err cause) = Err cause
unless_denied s session (Ok rows) =
    result_unless (changes_denied (rights_of s session) (changes_between s.schema (candidate_in_force s) rows))
    (Ok rows)

-- what is looked at before the source is read (RFC 6241 7.3, 7.5)
abbrev pub copy_checks : State → ℕ → Datastore → Origin → List (Option Cause)
copy_checks s session target source =
    unsupported is_target target ∷ unsupported_origin source
    ∷ cause_where (is_same_store target source) (plain_cause BadParameter (source_word ∷ []))
    ∷ in_use s session Candidate ∷ []

-- copy-config (RFC 6241 7.3): what the candidate is to hold, or why it stays
abbrev pub copied : State → ℕ → Datastore → Origin → Result (List Row) Cause
copied s session target source =
    result_unless (first_cause (copy_checks s session target source))
    (unless_denied s session (rows_copied s session source))

-- done, or refused for the cause
abbrev pub done_where : {A : Type 0} → Result A Cause → Verdict
done_where (Ok it) = Done
done_where (Err cause) = Refused (cause ∷ [])

-- ---- validate

-- validate: refused for the first violation (RFC 6241 8.6.4.1)
abbrev pub validated : Tables → Result (List Row) Cause → Verdict
validated tables (Err cause) = Refused (cause ∷ [])
validated tables (Ok rows) = checked (violation_in tables rows) Done

-- the configuration that is validated (RFC 6241 8.6.4.1)
abbrev pub rows_to_validate : State → Origin → Result (List Row) Cause
rows_to_validate s (Store store) = result_unless (unsupported is_source store) (Ok (stored s store))
rows_to_validate s (Inline config) = rows_of s.schema config

-- ---- locks of datastores (RFC 6241 7.5, 7.6)

-- the datastore is the candidate
abbrev pub is_candidate : Datastore → Bool
is_candidate Candidate = true
is_candidate store = false

-- the datastore is running
abbrev pub is_running : Datastore → Bool
is_running Running = true
is_running store = false

-- a commit is pending whose session is another (RFC 6241 7.5)
abbrev pub pending_of_other : ℕ → Option Pending → Option Cause
pending_of_other session pending =
    option_and_then (λ found. cause_where (not (found.session == session)) (pending_cause LockPending found)) pending

-- another session has a partial lock
abbrev pub partly_locked : State → ℕ → Option Cause
partly_locked s session = option_map (partial_lock_cause LockPartial) (lock_of_other s session (λ lock. true))

-- what is looked at before a datastore is locked (RFC 6241 7.5, 8.3.5.2; RFC 5717 2.1)
abbrev pub lock_checks : State → ℕ → Datastore → List (Option Cause)
lock_checks s session target =
    unsupported is_source target
    ∷ option_map (global_lock_cause LockHeld target) (holder_of s.holders target)
    ∷ cause_where (is_candidate target && is_some s.candidate) (plain_cause LockModified [])
    ∷ (if is_running target then pending_of_other session s.pending else None)
    ∷ (if is_running target then partly_locked s session else None) ∷ []

-- why a datastore is not locked
abbrev pub lock_refusal : State → ℕ → Datastore → Option Cause
lock_refusal s session target = first_cause (lock_checks s session target)

-- what is looked at before a datastore is unlocked (RFC 6241 7.6)
abbrev pub unlock_checks : State → ℕ → Datastore → List (Option Cause)
unlock_checks s session target =
    unsupported is_source target
    ∷ cause_where (not (is_held_by session (holder_of s.holders target)))
    (plain_cause NotHeld (datastore_name target ∷ [])) ∷ []

-- why a datastore is not unlocked
abbrev pub unlock_refusal : State → ℕ → Datastore → Option Cause
unlock_refusal s session target = first_cause (unlock_checks s session target)

-- ---- kill-session

-- the session is none that may be killed: it is not live, or it is the one that asks (RFC 6241 7.9)
abbrev pub kill_refusal : State → ℕ → ℕ → Option Cause
kill_refusal s session number =
    cause_where (number == session || not (is_live s number)) (plain_cause NotLiveTarget [])

-- ---- commit, discard-changes and cancel-commit

-- a commit that persists takes its own text alone, from any session; another one takes its own session alone, and no
-- text (RFC 6241 8.4.1, 8.4.5.1)
abbrev pub refused_by : ℕ → Pending → (token given : Option (List ℕ)) → Option Cause
refused_by session pending (Some token) (Some text) =
    cause_where (not (is_same_text token text)) (plain_cause BadToken [])
refused_by session pending (Some token) None = Some (pending_cause InUsePending pending)
refused_by session pending None (Some text) = Some (plain_cause BadToken [])
refused_by session pending None None =
    cause_where (not (pending.session == session)) (pending_cause InUsePending pending)

-- why a session may not follow, confirm or cancel the pending commit with this `persist-id`
abbrev pub admission : ℕ → Pending → Option (List ℕ) → Option Cause
admission session pending given = refused_by session pending pending.token given

-- why a commit may not be made now; where none is pending, no `persist-id` is right (RFC 6241 8.4.5.1)
abbrev pub commit_admission : State → ℕ → Option (List ℕ) → Option Cause
commit_admission s session given =
    option_map_or (λ pending. admission session pending given) s.pending
    (cause_where (is_some given) (plain_cause BadToken []))

-- why nothing may be cancelled now (RFC 6241 8.4.4.1)
abbrev pub cancel_admission : State → ℕ → Option (List ℕ) → Option Cause
cancel_admission s session given =
    option_map_or (λ pending. admission session pending given) s.pending (Some (plain_cause NoPending []))

-- the record of the candidate is larger than the server keeps
abbrev pub record_refusal : State → Option Cause
record_refusal s =
    cause_where (is_too_large (candidate_in_force s)) (plain_cause Limit (record_word ∷ []))

-- what a commit changes: running becomes the candidate (RFC 6241 8.3.4.1)
abbrev pub commit_changes : State → Changes
commit_changes s = changes_between s.schema s.running (candidate_in_force s)

-- what is looked at before a commit (RFC 6241 8.3.4.1, 8.4.5.1; RFC 5717 2.5; RFC 8341 3.2.8)
abbrev pub commit_checks : State → ℕ → Option (List ℕ) → List (Option Cause)
commit_checks s session persist_id =
    commit_admission s session persist_id ∷ in_use s session Running ∷ in_use s session Candidate
    ∷ in_use_partial s session (commit_changes s) ∷ changes_denied (rights_of s session) (commit_changes s)
    ∷ violation_in s.schema (candidate_in_force s) ∷ record_refusal s ∷ []

-- why a commit is refused, whatever the disk does
abbrev pub commit_refusal : State → ℕ → Option (List ℕ) → Option Cause
commit_refusal s session persist_id = first_cause (commit_checks s session persist_id)

-- what a cancel-commit changes: running becomes the base (RFC 6241 8.4.4.1)
abbrev pub cancel_changes : State → Changes
cancel_changes s = changes_between s.schema s.running (base_of s)

-- what is looked at before a cancel-commit (RFC 6241 8.4.4.1; RFC 5717 2.5)
abbrev pub cancel_checks : State → ℕ → Option (List ℕ) → List (Option Cause)
cancel_checks s session persist_id =
    cancel_admission s session persist_id ∷ in_use s session Running
    ∷ in_use_partial s session (cancel_changes s) ∷ []

-- why nothing is cancelled
abbrev pub cancel_refusal : State → ℕ → Option (List ℕ) → Option Cause
cancel_refusal s session persist_id = first_cause (cancel_checks s session persist_id)

-- done, unless the disk failed
abbrev pub kept_unless : Bool → Verdict
kept_unless true = refused_for DiskFault []
kept_unless false = Done

-- ---- partial locks (RFC 5717 2.4)

-- the path with the canonical texts of its keys (RFC 7950 9.1)
abbrev pub with_canonical_keys : Tables → List Bound → Path → Option Path
with_canonical_keys tables bounds path =
    option_map (λ steps. record { steps = steps })
    (canonical_steps tables (λ number text. canonical tables number text bounds) path.steps)

-- the node that a select names (RFC 5717 2.4.1; RFC 7950 9.13)
abbrev pub selected_path : Tables → Select → Option Path
selected_path tables select =
    option_and_then (with_canonical_keys tables select.bounds) (instance_path tables select.text select.bounds)

-- the node exists: it has a row, or is a container without presence in which one stands (RFC 7950 7.5.1)
abbrev pub is_matched : Tables → List Row → Path → Bool
is_matched tables rows path =
    if at_node tables path is_plain_container then exists rows path.steps else has_row rows path.steps

-- each of the nodes once, where it stands first
abbrev pub each_once : List Path → List Path
each_once [] = []
each_once (path ∷ paths) =
    path ∷ filter (λ other. not (is_same_path other.steps path.steps)) (each_once paths)

-- the nodes of running that selects name and the session sees, in the order of the selects (RFC 5717 2.4.1)
abbrev pub nodes_selected : State → ℕ → List Select → List Path
nodes_selected s session selects =
    each_once (filter (is_matched s.schema (visible s session s.running))
    (filter_map (selected_path s.schema) selects))

-- no node
abbrev pub is_none_of : List Path → Bool
is_none_of [] = true
is_none_of (path ∷ paths) = false

-- each select names a node of the schema
abbrev pub are_selects : Tables → List Select → Bool
are_selects tables selects = list_all (λ select. is_some (selected_path tables select)) selects

-- what is looked at before nodes are locked: a commit is pending; a session holds running's lock; a select names no
-- node of the schema; none of the nodes exists; another session's partial lock has one of them; the session has as many
-- locks as it may have; no lock-id is left (RFC 5717 2.4.1, 2.6.2)
abbrev pub partial_lock_checks : State → ℕ → List Select → List (Option Cause)
partial_lock_checks s session selects =
    option_map (pending_cause LockPending) s.pending
    ∷ option_map (global_lock_cause LockHeld Running) s.holders.running
    ∷ cause_where (not (are_selects s.schema selects)) (plain_cause BadSelect [])
    ∷ cause_where (is_none_of (nodes_selected s session selects)) (plain_cause NoMatch [])
    ∷ option_map (partial_lock_cause LockPartial)
    (lock_of_other s session (locks_some (nodes_selected s session selects)))
    ∷ cause_where (length (locks_of session s.partial) == most_locks) (plain_cause Limit (partial_locks_word ∷ []))
    ∷ cause_where (s.last_lock == last_lock_id) (plain_cause Limit (lock_ids_word ∷ [])) ∷ []

-- why nodes are not locked
abbrev pub partial_lock_refusal : State → ℕ → List Select → Option Cause
partial_lock_refusal s session selects = first_cause (partial_lock_checks s session selects)

-- the session has a partial lock of that lock-id
abbrev pub has_lock : State → ℕ → ℕ → Bool
has_lock s session id = list_any (λ lock. lock.id == id && lock.session == session) s.partial

-- why a partial lock is not released (RFC 5717 2.4.2)
abbrev pub partial_unlock_refusal : State → ℕ → ℕ → Option Cause
partial_unlock_refusal s session id =
    cause_where (not (has_lock s session id)) (plain_cause BadParameter (lock_id_word ∷ []))

-- ---- the verdict

-- the verdict on what is asked, where the disk fails or not
abbrev pub asked_verdict : State → ℕ → Asked → Bool → Verdict
asked_verdict s session (Get filter) failed = Selected (shown s session Running filter)
asked_verdict s session (GetConfig source filter) failed =
    checked (unsupported is_source source) (Selected (shown s session source filter))
asked_verdict s session (EditConfig target default_operation test on_error config) failed =
    edit_verdict s.schema test (edits_made s session target default_operation on_error config)
asked_verdict s session (CopyConfig target source) failed = done_where (copied s session target source)
asked_verdict s session (DeleteConfig target) failed = refused_for UnsupportedTarget (datastore_name target ∷ [])
asked_verdict s session (Lock target) failed = checked (lock_refusal s session target) Done
asked_verdict s session (Unlock target) failed = checked (unlock_refusal s session target) Done
asked_verdict s session CloseSession failed = Done
asked_verdict s session (KillSession number) failed = checked (kill_refusal s session number) Done
asked_verdict s session (Commit confirmed timeout persist persist_id) failed =
    checked (commit_refusal s session persist_id) (kept_unless (not confirmed && failed))
asked_verdict s session DiscardChanges failed = checked (in_use s session Candidate) Done
asked_verdict s session (CancelCommit persist_id) failed = checked (cancel_refusal s session persist_id) Done
asked_verdict s session (Validate source) failed = validated s.schema (rows_to_validate s source)
asked_verdict s session (PartialLock selects) failed =
    checked (partial_lock_refusal s session selects) (Locked (s.last_lock + 1) (nodes_selected s session selects))
asked_verdict s session (PartialUnlock id) failed = checked (partial_unlock_refusal s session id) Done

-- ---- the operation

-- the session may not ask for the operation (`access-denied`, RFC 8341 3.4.4)
abbrev pub exec_denied : Decision → Option Cause
exec_denied decision = cause_where (not decision.permit) (plain_cause ExecDenied (decision_names Exec decision.by))

-- an operation that the session may not ask for is refused before its parameters are looked at (RFC 8341 3.4.4)
abbrev pub operation_refused : State → ℕ → Option Operation → Option Cause
operation_refused s session None = None
operation_refused s session (Some operation) = exec_denied (exec_of s session operation)

-- the verdict on the reading of a request's parameters
abbrev pub verdict_on : State → ℕ → Result Asked Cause → Bool → Verdict
verdict_on s session (Err cause) failed = Refused (cause ∷ [])
verdict_on s session (Ok asked) failed = asked_verdict s session asked failed

-- the verdict on a live session's request, where the disk fails or not
abbrev pub verdict : State → ℕ → Request → Bool → Verdict
verdict s session request failed =
    checked (operation_refused s session request.operation) (verdict_on s session request.asked failed)
