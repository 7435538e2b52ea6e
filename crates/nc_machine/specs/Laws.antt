-- What follows from the definitions of `nc_model` for one event of a machine.
use Rattle.std.specs.Prelude.{◌≡◌, ◌≢◌, ◌≤◌, ◌<◌, ℕ, true, IsTrue, List, [], ◌∷◌, length, Option, Some, None, IfSome, IsSome, IsSomeAnd, Ok}
use Rattle.std.specs.List.{All}
use Rattle.nc_names.specs.Counts.{Rose}
use Rattle.nc_names.specs.declared.path.Path.{Path}
use Rattle.nc_names.specs.declared.path.Right.{Right}
use Rattle.nc_names.specs.declared.path.Right.TheVariants.{Create as MayCreate, Update as MayUpdate, Delete as MayDelete}
use Rattle.nc_names.specs.declared.path.Row.{Row}
use Rattle.nc_schema.specs.Record.{record_size}
use Rattle.nc_names.specs.Limits.{body_limit}
use Rattle.nc_schema.specs.Tables.{Tables}
use Rattle.nc_schema.specs.Violations.{IsValid}
use Rattle.nc_protocol.specs.declared.access.Decision.{Decision}
use Rattle.nc_protocol.specs.declared.asked.Asked.{Asked}
use Rattle.nc_protocol.specs.declared.asked.Asked.TheVariants.{Get, GetConfig, EditConfig, CopyConfig, Lock, Unlock, CloseSession, KillSession, Commit, DiscardChanges, CancelCommit, Validate, PartialLock, PartialUnlock}
use Rattle.nc_protocol.specs.declared.asked.Operation.{Operation}
use Rattle.nc_protocol.specs.declared.asked.TestOption.{TestOption}
use Rattle.nc_protocol.specs.declared.asked.TestOption.TheVariants.{Set}
use Rattle.nc_protocol.specs.declared.changes.Changes.{Changes}
use Rattle.nc_protocol.specs.declared.datastore.Datastore.{Datastore}
use Rattle.nc_protocol.specs.declared.datastore.Datastore.TheVariants.{Running, Candidate}
use Rattle.nc_protocol.specs.declared.datastore.Origin.{Origin}
use Rattle.nc_protocol.specs.declared.datastore.Origin.TheVariants.{Store, Inline}
use Rattle.nc_protocol.specs.declared.edit.Edit.{Edit}
use Rattle.nc_protocol.specs.declared.request.Request.{Request}
use Rattle.nc_protocol.specs.declared.verdict.Verdict.TheVariants.{Done, Locked, Selected}
use Rattle.nc_protocol.specs.Changes.{changes_between}
use Rattle.nc_protocol.specs.Edited.{edited}
use Rattle.nc_protocol.specs.Payload.{edits_of, rows_of}
use Rattle.nc_model.specs.declared.entry.Entry.{Entry}
use Rattle.nc_model.specs.declared.event.Event.TheVariants.{Request as Requested}
use Rattle.nc_model.specs.declared.event.Outcome.{Outcome}
use Rattle.nc_model.specs.declared.event.Outcome.TheVariants.{Answered}
use Rattle.nc_model.specs.Access.{exec_of, rights_of, visible}
use Rattle.nc_model.specs.State.{Pending, State, candidate_in_force, expired, is_live, last_lock_id, locks_of, locks_some, most_locks}
use Rattle.nc_model.specs.Step.{Fits}
use Rattle.nc_model.specs.Verdict.{cancel_changes, commit_changes, covers_path, has_lock, holder_of, is_source, nodes_selected, selected_path, stored}

-- each edit is made in what those before it leave (RFC 6241 7.2)
abbrev pub AreMade : Tables → (Path → Right → Decision) → List Row → List Edit → List Row → Type 0
AreMade tables rights rows [] left = rows ≡ left
AreMade tables rights rows (edit ∷ edits) left =
    (between : List Row) × (edited tables rights rows edit ≡ Ok between) × AreMade tables rights between edits left

-- what edits leave is valid where it is tested (RFC 6241 7.2, `test-option`)
abbrev pub PassesTest : Tables → TestOption → List Row → Type 0
PassesTest tables Set rows = Unit {0}
PassesTest tables test rows = IsValid tables rows

-- a configuration can be had from there, and is this
abbrev pub IsHadFrom : State → Origin → List Row → Type 0
IsHadFrom s (Store store) rows = (is_source store ≡ true) × (stored s store ≡ rows)
IsHadFrom s (Inline config) rows = rows_of s.schema config ≡ Ok rows

-- no other session holds the lock of the datastore (RFC 6241 7.5)
abbrev pub IsFree : State → ℕ → Datastore → Type 0
IsFree s session store = IfSome (holder_of s.holders store) (λ other. other ≡ session)

-- the node is in no partial lock of another session (RFC 5717 2.5)
abbrev pub IsFreeNode : State → ℕ → Path → Type 0
IsFreeNode s session path = All (λ lock. IsTrue (covers_path path lock) → lock.session ≡ session) s.partial

-- so it is with each node that changes
pub record AreFree (s : State) (session : ℕ) (changes : Changes) : Type 0 where
  pub deleted : All (IsFreeNode s session) changes.deleted
  pub updated : All (IsFreeNode s session) changes.updated
  pub created : All (IsFreeNode s session) changes.created

-- each change is permitted (RFC 8341 3.4.5)
pub record ArePermitted (rights : Path → Right → Decision) (changes : Changes) : Type 0 where
  pub deleted : All (λ path. IsTrue (rights path MayDelete).permit) changes.deleted
  pub updated : All (λ path. IsTrue (rights path MayUpdate).permit) changes.updated
  pub created : All (λ path. IsTrue (rights path MayCreate).permit) changes.created

-- the session may follow, confirm or cancel the pending commit with that `persist-id` (RFC 6241 8.4.1)
abbrev pub IsAdmitted : ℕ → Option (List ℕ) → Pending → Type 0
IsAdmitted session given pending = (given ≡ pending.token) × (pending.token ≡ None → pending.session ≡ session)

-- it may commit: a pending commit admits it, or none is pending and there is no `persist-id`
abbrev pub MayCommit : ℕ → Option (List ℕ) → Option Pending → Type 0
MayCommit session given None = given ≡ None
MayCommit session given (Some pending) = IsAdmitted session given pending

-- nothing stands against a commit: no pending one, no lock and no right; the candidate is valid, and its record has
-- room (RFC 6241 7.5, 8.3.4.1, 8.4.1; RFC 5717 2.5; RFC 8341 3.2.8)
pub record IsCommittable (s : State) (session : ℕ) (given : Option (List ℕ)) : Type 0 where
  pub admitted : MayCommit session given s.pending
  pub running : IsFree s session Running
  pub candidate : IsFree s session Candidate
  pub nodes : AreFree s session (commit_changes s)
  pub rights : ArePermitted (rights_of s session) (commit_changes s)
  pub valid : IsValid s.schema (candidate_in_force s)
  pub small : record_size (candidate_in_force s) ≤ body_limit

-- nothing stands against a lock of the datastore (RFC 6241 7.5, 8.3.5.2; RFC 5717 2.4.1)
abbrev pub IsLockable : State → ℕ → Datastore → Type 0
IsLockable s session Running =
    (s.holders.running ≡ None) × IfSome s.pending (λ found. found.session ≡ session)
    × All (λ lock. lock.session ≡ session) s.partial
IsLockable s session Candidate = (s.holders.candidate ≡ None) × (s.candidate ≡ None)
IsLockable s session store = ⊥

-- a session may copy these rows from there (RFC 6241 7.3; RFC 8341 3.2.6)
abbrev pub IsCopiedFrom : State → ℕ → Origin → List Row → Type 0
IsCopiedFrom s session (Store store) rows = (store ≡ Running) × (visible s session s.running ≡ rows)
IsCopiedFrom s session (Inline config) rows = rows_of s.schema config ≡ Ok rows

-- the nodes may be locked by the session (RFC 5717 2.4.1, 2.6.2)
pub record ArePartlyLockable (s : State) (session : ℕ) (nodes : List Path) : Type 0 where
  pub none_pending : s.pending ≡ None
  pub not_locked : s.holders.running ≡ None
  pub some : nodes ≢ []
  pub apart : All (λ lock. IsTrue (locks_some nodes lock) → lock.session ≡ session) s.partial
  pub few : length (locks_of session s.partial) < most_locks
  pub ids : s.last_lock < last_lock_id

-- nothing stands against what is asked for (RFC 6241 7 and 8; RFC 5717 2.4)
abbrev pub IsUnopposed : State → ℕ → Asked → Type 0
IsUnopposed s session (Get filter) = Unit {0}
IsUnopposed s session (GetConfig source filter) = is_source source ≡ true
IsUnopposed s session (EditConfig target default_operation test on_error config) =
    (target ≡ Candidate) × IsFree s session Candidate × (edits : List Edit) × (left : List Row)
    × (edits_of s.schema default_operation config ≡ Ok edits)
    × AreMade s.schema (rights_of s session) (candidate_in_force s) edits left × PassesTest s.schema test left
IsUnopposed s session (CopyConfig target source) =
    (target ≡ Candidate) × IsFree s session Candidate × (rows : List Row) × IsCopiedFrom s session source rows
    × ArePermitted (rights_of s session) (changes_between s.schema (candidate_in_force s) rows)
IsUnopposed s session (Lock target) = IsLockable s session target
IsUnopposed s session (Unlock target) = holder_of s.holders target ≡ Some session
IsUnopposed s session CloseSession = Unit {0}
IsUnopposed s session (KillSession number) = (number ≢ session) × (is_live s number ≡ true)
IsUnopposed s session (Commit confirmed timeout persist persist_id) = IsCommittable s session persist_id
IsUnopposed s session DiscardChanges = IsFree s session Candidate
IsUnopposed s session (CancelCommit persist_id) =
    IsSomeAnd s.pending (IsAdmitted session persist_id) × IsFree s session Running
    × AreFree s session (cancel_changes s)
IsUnopposed s session (Validate source) = (rows : List Row) × IsHadFrom s source rows × IsValid s.schema rows
IsUnopposed s session (PartialLock selects) =
    All (λ select. IsSome (selected_path s.schema select)) selects
    × ArePartlyLockable s session (nodes_selected s session selects)
IsUnopposed s session (PartialUnlock lock) = IsTrue (has_lock s session lock)
IsUnopposed s session asked = ⊥

-- there is an operation, and the session may ask for it (RFC 8341 3.4.4)
abbrev pub MayAsk : State → ℕ → Option Operation → Type 0
MayAsk s session operation =
    IsSomeAnd operation (λ named. (exec_of s session named).permit ≡ true)

-- the reply is `ok` or has the rows or the lock
abbrev pub IsGranted : Outcome → Type 0
IsGranted (Answered Done reply) = Unit {0}
IsGranted (Answered (Selected rows) reply) = Unit {0}
IsGranted (Answered (Locked lock nodes) reply) = Unit {0}
IsGranted outcome = ⊥

-- an entry in which a live session asks for something
pub record IsAskedIn (s : State) (e : Entry) (session : ℕ) (request : Request) (asked : Asked) : Type 0 where
  pub fits : Fits s e
  pub event_is : e.event ≡ Requested session request
  pub asked_is : request.asked ≡ Ok asked
  pub live : is_live (expired s e.at) session ≡ true

-- what a live session asks for is granted where it may ask for it, nothing stands against it, and the count of the
-- disk's faults does not rise
abbrev pub UnopposedIsGranted : Type 0
UnopposedIsGranted =
    (s : State) (e : Entry) (session : ℕ) (request : Request) (asked : Asked) →
    IsAskedIn s e session request asked → MayAsk (expired s e.at) session request.operation →
    IsUnopposed (expired s e.at) session asked → ¬ Rose e.faults_before e.faults_after →
    IsGranted e.outcome
