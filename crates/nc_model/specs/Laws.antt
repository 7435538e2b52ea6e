-- What follows from the definitions of the server.
use Rattle.std.specs.Prelude.{◌⊎◌, ◌≡◌, ◌≢◌, ◌↔◌, ◌+◌, ℕ, Bool, true, false, List, [], ◌∷◌, ◌++◌, length, Option, Some, None, IsSomeAnd, Ok, Result, map}
use Rattle.std.specs.List.{All, Contains}
use Rattle.nc_names.specs.Counts.{Rose}
use Rattle.nc_names.specs.declared.path.Right.{Right}
use Rattle.nc_names.specs.declared.path.Row.{Row}
use Rattle.nc_names.specs.declared.path.Step.{Step}
use Rattle.nc_message.specs.declared.tree.Tree.{Tree}
use Rattle.nc_schema.specs.Configuration.{IsConfiguration}
use Rattle.nc_schema.specs.Proper.{IsProperSchema}
use Rattle.nc_schema.specs.Tables.{Tables}
use Rattle.nc_schema.specs.Violations.{IsValid}
use Rattle.nc_protocol.specs.declared.asked.Asked.{Asked}
use Rattle.nc_protocol.specs.declared.asked.Asked.TheVariants.{CancelCommit, CloseSession, EditConfig, KillSession}
use Rattle.nc_protocol.specs.declared.asked.ErrorOption.TheVariants.{Rollback}
use Rattle.nc_protocol.specs.declared.asked.Select.{Select}
use Rattle.nc_protocol.specs.declared.peer.Peer.{Peer}
use Rattle.nc_protocol.specs.declared.request.Cause.{Cause}
use Rattle.nc_protocol.specs.declared.request.Request.{Request}
use Rattle.nc_protocol.specs.declared.verdict.Verdict.TheVariants.{Done, Refused}
use Rattle.nc_model.specs.Access.{sees_of}
use Rattle.nc_model.specs.Decision.{data_decision, exec_decision}
use Rattle.nc_model.specs.History.{after, IsLegal, IsMineIn}
use Rattle.nc_model.specs.Sight.{is_open, may_see, visible_rows}
use Rattle.nc_model.specs.State.{State, IsGood, Pending, base_of, expired, is_due, opening, read_at}
use Rattle.nc_model.specs.Step.{Fits, appends_record, has_failed, is_commit, is_done, next}
use Rattle.nc_model.specs.Verdict.{nodes_selected}
use Rattle.nc_model.specs.declared.called.Called.{Called}
use Rattle.nc_model.specs.declared.entry.Entry.{Entry}
use Rattle.nc_model.specs.declared.event.Event.{Event}
use Rattle.nc_model.specs.declared.event.Event.TheVariants.{Start, Request as Requested, End}
use Rattle.nc_model.specs.declared.event.Outcome.{Outcome}
use Rattle.nc_model.specs.declared.event.Outcome.TheVariants.{Answered, Ended, NotLive, Started}
use Rattle.nc_model.specs.declared.policy.Policy.{Policy}

-- the state after a history is that after its rest, from the state after its front
abbrev pub HistoriesJoin : Type 0
HistoriesJoin =
    (s : State) (front rest : List Entry) →
    after s (front ++ rest) ≡ after (after s front) rest

-- a history is legal exactly where its front is, and its rest is from there on
abbrev pub LegalHistoriesJoin : Type 0
LegalHistoriesJoin =
    (first : ℕ) (s : State) (front rest : List Entry) →
    IsLegal first s (front ++ rest)
    ↔ (IsLegal first s front × IsLegal (first + length front) (after s front) rest)

-- one entry is a legal history exactly where it has the first number and fits
abbrev pub OneEntryIsLegal : Type 0
OneEntryIsLegal =
    (first : ℕ) (s : State) (e : Entry) →
    IsLegal first s (e ∷ []) ↔ ((e.number ≡ first) × Fits s e)

-- entries of a history are entries of every longer one
abbrev pub MineStays : Type 0
MineStays = (mine history more : List Entry) → IsMineIn mine history → IsMineIn mine (history ++ more)

-- the last entry of a longer legal history may be added to them
abbrev pub MineGrows : Type 0
MineGrows =
    (first : ℕ) (s : State) (mine history more : List Entry) (e : Entry) →
    IsLegal first s (history ++ (more ++ e ∷ [])) → IsMineIn mine history →
    IsMineIn (mine ++ e ∷ []) (history ++ (more ++ e ∷ []))

-- a valid configuration makes a good opening state
abbrev pub OpeningIsGood : Type 0
OpeningIsGood =
    (schema : Tables) (running : List Row) (faults : ℕ) →
    IsProperSchema schema → IsConfiguration schema running → IsValid schema running →
    IsGood (opening schema running faults)

-- a good state stays good over every legal history: running is valid throughout
abbrev pub GoodStays : Type 0
GoodStays = (first : ℕ) (s : State) (history : List Entry) → IsGood s → IsLegal first s history →
    IsGood (after s history)

-- what makes an entry, its place aside: its event, the reading of the clock, and what the disk did
abbrev pub made_from : Entry → Event × ℕ × Bool × ℕ
made_from e = (e.event, e.at, has_failed e.outcome, e.faults_after)

-- a legal history is determined by its opening, and by the events, the readings of the clock and what the disk did
abbrev pub HistoryIsDetermined : Type 0
HistoryIsDetermined =
    (first : ℕ) (opening : State) (history other : List Entry) →
    IsLegal first opening history → IsLegal first opening other → map made_from history ≡ map made_from other →
    history ≡ other

-- a disk fault is answered only where the count of the disk's faults rose
abbrev pub DiskFaultHasCause : Type 0
DiskFaultHasCause =
    (s : State) (e : Entry) → Fits s e → has_failed e.outcome ≡ true → Rose e.faults_before e.faults_after

-- the entry is a request that is done, and its reading passes a test
abbrev pub IsDoneOf : (Result Asked Cause → Bool) → Event → Outcome → Type 0
IsDoneOf test (Requested session request) (Answered verdict reply) = (test request.asked ≡ true) × (verdict ≡ Done)
IsDoneOf test event outcome = ⊥

-- the base changes by a plain or confirming commit alone (RFC 6241 8.3.4.1, 8.4.1)
abbrev pub CommitAloneChangesBase : Type 0
CommitAloneChangesBase =
    (s : State) (e : Entry) →
    (base_of (next s e) ≡ base_of s) ⊎ IsDoneOf appends_record e.event e.outcome

-- `cancel-commit` is asked for (RFC 6241 8.4.4.1)
abbrev pub asks_cancel : Result Asked Cause → Bool
asks_cancel (Ok (CancelCommit persist_id)) = true
asks_cancel asked = false

-- the event is of this session
abbrev pub IsOf : ℕ → Event → Type 0
IsOf session (Requested own request) = own ≡ session
IsOf session (End own) = own ≡ session
IsOf session event = ⊥

-- `close-session` is asked for (RFC 6241 7.8)
abbrev pub asks_close : Result Asked Cause → Bool
asks_close (Ok CloseSession) = true
asks_close asked = false

-- the session that a request of a session ends, once it is done: itself, or the one that is killed (RFC 6241 7.8, 7.9)
abbrev pub ended_by : ℕ → Result Asked Cause → Option ℕ
ended_by own (Ok CloseSession) = Some own
ended_by own (Ok (KillSession number)) = Some number
ended_by own asked = None

-- an entry that ends this session: its End, its close-session or a kill-session of it that is done (RFC 6241 7.8, 7.9)
abbrev pub EndsSession : ℕ → Event → Outcome → Type 0
EndsSession session (End own) Ended = own ≡ session
EndsSession session (Requested own request) (Answered verdict reply) =
    (ended_by own request.asked ≡ Some session) × (is_done verdict ≡ true)
EndsSession session event outcome = ⊥

-- the pending commit is of this session and does not persist
abbrev pub IsPendingAlone : ℕ → Option Pending → Type 0
IsPendingAlone session pending = IsSomeAnd pending (λ found. (found.session ≡ session) × (found.token ≡ None))

-- an entry by which running may change: a commit, plain or confirmed; a cancel-commit; the end of the session of a
-- pending commit that does not persist; or a reading of the clock at which the time of a pending commit is over
-- (RFC 6241 8.3.4.1, 8.4.1)
pub data ChangesRunning (s : State) (e : Entry) : Type 0 where
  by_commit : IsDoneOf is_commit e.event e.outcome → ChangesRunning s e
  by_cancel : IsDoneOf asks_cancel e.event e.outcome → ChangesRunning s e
  by_end : (session : ℕ) → EndsSession session e.event e.outcome → IsPendingAlone session s.pending → ChangesRunning s e
  by_deadline : is_due (read_at s e.at) ≡ true → ChangesRunning s e

-- running changes by nothing else
abbrev pub RunningChangesByFew : Type 0
RunningChangesByFew = (s : State) (e : Entry) → ((next s e).running ≡ s.running) ⊎ ChangesRunning s e

-- edits are asked for of which those stay that are made before one is refused: all but under `rollback-on-error` (RFC
-- 6241 7.2, 8.5)
abbrev pub keeps_edits : Result Asked Cause → Bool
keeps_edits (Ok (EditConfig target default_operation test Rollback config)) = false
keeps_edits (Ok (EditConfig target default_operation test on_error config)) = true
keeps_edits asked = false

-- the candidate alone is another
abbrev pub ChangesCandidate : State → State → Type 0
ChangesCandidate s t = t ≡ record s { candidate = t.candidate }

-- a refused request changes nothing but the clock and the count of faults, but for edits that were made before one was
-- refused (RFC 6241 4.3, 7.2)
abbrev pub RefusedChangesNothing : Type 0
RefusedChangesNothing =
    (s : State) (e : Entry) (session : ℕ) (request : Request) (causes : List Cause) (reply : Tree) →
    Fits s e → e.event ≡ Requested session request → e.outcome ≡ Answered (Refused causes) reply →
    let before = record (expired s e.at) { faults = e.faults_after } in
    (next s e ≡ before) ⊎ ((keeps_edits request.asked ≡ true) × ChangesCandidate before (next s e))

-- where the candidate's lock goes, by unlock or by the end of its session, the candidate is unmodified (RFC 6241
-- 8.3.5.2)
abbrev pub LockGoesWithChanges : Type 0
LockGoesWithChanges =
    (s : State) (e : Entry) (session : ℕ) →
    Fits s e → s.holders.candidate ≡ Some session → (next s e).holders.candidate ≢ Some session →
    (next s e).candidate ≡ None

-- the nodes that a partial lock is told to lock are seen by its session (RFC 5717 2.4.1; RFC 8341 3.2.4)
abbrev pub LockedIsSeen : Type 0
LockedIsSeen =
    (s : State) (session : ℕ) (selects : List Select) →
    All (λ path. sees_of s session path ≡ true) (nodes_selected s session selects)

-- what a user sees of a configuration is a configuration: keys stand with their entries, and entries and containers
-- with what is in them (RFC 8341 3.2.4)
abbrev pub VisibleIsConfiguration : Type 0
VisibleIsConfiguration =
    (tables : Tables) (policy : Policy) (peer : Peer) (rows : List Row) →
    IsProperSchema tables → IsConfiguration tables rows → IsConfiguration tables (visible_rows tables policy peer rows)

-- a user for whom nothing is denied: every operation and every access is permitted, and every node is seen (RFC 8341
-- 3.3.3, 3.3.4.1)
pub record NothingIsDenied : Type 0 where
  pub operations :
      (policy : Policy) (peer : Peer) (operation : Called) → is_open policy peer ≡ true →
      (exec_decision policy peer operation).permit ≡ true
  pub rights :
      (tables : Tables) (policy : Policy) (peer : Peer) (steps : List Step) (right : Right) →
      is_open policy peer ≡ true → (data_decision tables policy peer steps right).permit ≡ true
  pub nodes :
      (tables : Tables) (policy : Policy) (peer : Peer) (steps : List Step) → is_open policy peer ≡ true →
      may_see tables policy peer steps ≡ true
  pub rows :
      (tables : Tables) (policy : Policy) (peer : Peer) (rows : List Row) → is_open policy peer ≡ true →
      visible_rows tables policy peer rows ≡ rows

-- a session that was started, and is found not to be live by a later entry of it, was ended by one between them
abbrev pub IsEndedBetween : Type 0
IsEndedBetween =
    (first : ℕ) (opening : State) (front between : List Entry) (start last : Entry) (peer : Peer) (session : ℕ) →
    IsLegal first opening (front ++ start ∷ (between ++ last ∷ [])) →
    start.event ≡ Start peer → start.outcome ≡ Started session → IsOf session last.event → last.outcome ≡ NotLive →
    (ender : Entry) × Contains between ender × EndsSession session ender.event ender.outcome
