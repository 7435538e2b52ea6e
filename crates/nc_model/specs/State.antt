-- The state of the server: its datastores, sessions, locks and the pending commit (RFC 6241 5.1, 7.5, 8.1, 8.3 and 8.4;
-- RFC 5717 2.1).
use Rattle.std.specs.Prelude.{◌≡◌, ◌≢◌, ◌≤◌, ◌<◌, ◌==◌, ◌||◌, ◌⊎◌, ℕ, Bool, false, IsTrue, IsSome, if◌then◌else◌, nat_le, List, [], length, max, not, Option, None, Some, IfSome, is_some, unwrap_or}
use Rattle.std.specs.List.{All, AllPairs, filter, list_any}
use Rattle.std.specs.Option.{option_map_or}
use Rattle.nc_names.specs.Same.{is_at_or_below}
use Rattle.nc_names.specs.declared.path.Path.{Path}
use Rattle.nc_names.specs.declared.path.Row.{Row}
use Rattle.nc_schema.specs.Configuration.{IsConfiguration}
use Rattle.nc_schema.specs.Proper.{IsProperSchema}
use Rattle.nc_schema.specs.Tables.{Tables}
use Rattle.nc_schema.specs.Violations.{IsValid}
use Rattle.nc_model.specs.declared.session.Session.{Session}

-- the sessions that hold the locks of whole datastores (RFC 6241 7.5)
pub record Holders : Type 0 where
  pub running : Option ℕ
  pub candidate : Option ℕ

-- a partial lock: its lock-id, the session that holds it, and the nodes of running that it locks, each with all that is
-- below it (RFC 5717 2.1)
pub record NodeLock : Type 0 where
  pub id : ℕ
  pub session : ℕ
  pub nodes : List Path

-- a confirmed commit that waits to be confirmed (RFC 6241 8.4.1): the configuration to which running is reverted; the
-- reading of the clock at which it is; the `persist` text, if one was given; the session that may confirm it without
-- one, or 0 where that has ended
pub record Pending : Type 0 where
  pub base : List Row
  pub deadline : ℕ
  pub token : Option (List ℕ)
  pub session : ℕ

-- the schema; running and candidate, which is none while it is unmodified (RFC 6241 8.3.1); the live
-- sessions; the latest reading of the clock, in milliseconds; the last session-id that was given, or 0;
-- the count of the disk's faults; the locks of whole datastores; the partial locks, in the order of their lock-ids; the
-- pending commit; the last lock-id that was given, or 0
pub record State : Type 0 where
  pub schema : Tables
  pub running : List Row
  pub candidate : Option (List Row)
  pub sessions : List Session
  pub now : ℕ
  pub last : ℕ
  pub faults : ℕ
  pub holders : Holders
  pub partial : List NodeLock
  pub pending : Option Pending
  pub last_lock : ℕ

-- no session holds a lock
abbrev pub no_holders : Holders
no_holders = record { running = None; candidate = None }

-- the state before the first event
abbrev pub opening : Tables → List Row → ℕ → State
opening schema running faults = record {
  schema = schema;
  running = running;
  candidate = None;
  sessions = [];
  now = 0;
  last = 0;
  faults = faults;
  holders = no_holders;
  partial = [];
  pending = None;
  last_lock = 0;
}

-- the configuration of the candidate: an unmodified one is running's (RFC 6241 8.3.1)
abbrev pub candidate_in_force : State → List Row
candidate_in_force s = unwrap_or s.candidate s.running

-- ---- the pending commit (RFC 6241 8.4)

-- what running is once no commit is pending that is not confirmed: what a restart begins with (RFC 6241 8.4.1)
abbrev pub base_of : State → List Row
base_of s = option_map_or (λ pending. pending.base) s.pending s.running

-- the pending commit is reverted (RFC 6241 8.4.1)
abbrev pub reverted : State → State
reverted s = record s { running = base_of s; pending = None }

-- the time of the pending commit is over (RFC 6241 8.4.1)
abbrev pub is_due : State → Bool
is_due s = option_map_or (λ pending. nat_le pending.deadline s.now) s.pending false

-- the clock is read: it does not go back
abbrev pub read_at : State → ℕ → State
read_at s at = record s { now = max s.now at }

-- the state when the clock is read: a pending commit whose time is over is reverted
abbrev pub expired : State → ℕ → State
expired s at = if is_due (read_at s at) then reverted (read_at s at) else read_at s at

-- ---- sessions

-- a session of that number is among them
abbrev pub is_among : List Session → ℕ → Bool
is_among sessions number = list_any (λ session. session.number == number) sessions

-- a session of that number is live
abbrev pub is_live : State → ℕ → Bool
is_live s number = is_among s.sessions number

-- as many sessions are live at once
abbrev pub most_sessions : ℕ
most_sessions = 64

-- the last session-id: they are from 1 to 2 ^ 32 - 1 (RFC 6241 appendix C, `session-id-type`)
abbrev pub last_session_id : ℕ
last_session_id = 4294967295

-- ---- locks

-- the session holds that lock
abbrev pub is_held_by : ℕ → Option ℕ → Bool
is_held_by number holder = option_map_or (λ other. other == number) holder false

-- the lock, unless the session holds it
abbrev pub unless_held_by : ℕ → Option ℕ → Option ℕ
unless_held_by number holder = if is_held_by number holder then None else holder

-- the locks without those of the session
abbrev pub holders_without : ℕ → Holders → Holders
holders_without number holders = record {
  running = unless_held_by number holders.running;
  candidate = unless_held_by number holders.candidate;
}

-- the locks of a session are released: a candidate that it had locked is unmodified (RFC 6241 7.5, 8.3.5.2; RFC 5717
-- 2.1)
abbrev pub released : State → ℕ → State
released s number = record s {
  holders = holders_without number s.holders;
  partial = filter (λ lock. not (lock.session == number)) s.partial;
  candidate = if is_held_by number s.holders.candidate then None else s.candidate;
}

-- as many partial locks has a session at once
abbrev pub most_locks : ℕ
most_locks = 64

-- the last lock-id: they are from 1 to 2 ^ 32 - 1 (RFC 5717 appendix B, `lock-id-type`)
abbrev pub last_lock_id : ℕ
last_lock_id = 4294967295

-- the partial locks of a session
abbrev pub locks_of : ℕ → List NodeLock → List NodeLock
locks_of number partial = filter (λ lock. lock.session == number) partial

-- what is at or below the one node and at or below the other too: one of them is at or below the other (RFC 5717 2.1)
abbrev pub share_node : Path → Path → Bool
share_node one other = is_at_or_below one.steps other || is_at_or_below other.steps one

-- the nodes of a partial lock and other nodes share one
abbrev pub locks_some : List Path → NodeLock → Bool
locks_some nodes lock = list_any (λ locked. list_any (share_node locked) nodes) lock.nodes

-- ---- the end of a session (RFC 6241 7.8, 7.9)

-- the session is not live
abbrev pub without_session : State → ℕ → State
without_session s number =
    record s { sessions = filter (λ session. not (session.number == number)) s.sessions }

-- its pending commit is reverted, unless `persist` was given: then no session is the one that may confirm it without
-- (RFC 6241 8.4.1)
abbrev pub left_by_end : State → ℕ → Option Pending → State
left_by_end s number None = s
left_by_end s number (Some pending) =
    if not (pending.session == number) then s
    else (if is_some pending.token then record s { pending = Some (record pending { session = 0 }) } else reverted s)

-- the state when a session is over: its locks are released, and its pending commit is reverted unless it persists (RFC
-- 6241 7.8, 8.4.1)
abbrev pub session_ended : State → ℕ → State
session_ended s number = left_by_end (released (without_session s number) number) number s.pending

-- ---- what is true of every state that a good opening state leads to

-- running is a valid configuration, the candidate a configuration (RFC 6241 8.3.1)
pub record AreStores (tables : Tables) (rows : List Row) (modified : Option (List Row)) : Type 0 where
  pub schema : IsProperSchema tables
  pub running : IsConfiguration tables rows
  pub valid : IsValid tables rows
  pub candidate : IfSome modified (IsConfiguration tables)

-- a session-id from 1 to the last that was given (RFC 6241 appendix C, `session-id-type`)
abbrev pub IsSessionId : ℕ → ℕ → Type 0
IsSessionId last number = (1 ≤ number) × (number ≤ last)

-- the live sessions have numbers of their own, and are not too many
pub record AreSessions (sessions : List Session) (highest : ℕ) : Type 0 where
  pub given : All (λ session. IsSessionId highest session.number) sessions
  pub distinct : AllPairs (λ session later. session.number ≢ later.number) sessions
  pub few : length sessions ≤ most_sessions
  pub last : highest ≤ last_session_id

-- a session of that number is live
abbrev pub IsAmong : List Session → ℕ → Type 0
IsAmong sessions number = IsTrue (is_among sessions number)

-- locks of two sessions share no node (RFC 5717 2.1)
abbrev pub ShareNone : NodeLock → NodeLock → Type 0
ShareNone lock other = lock.session ≢ other.session → locks_some other.nodes lock ≡ false

-- live sessions hold the locks; the lock-ids are apart and rise from 1 on; a session has not too many; those of two
-- sessions share no node
pub record AreLocks (sessions : List Session) (holders : Holders) (partial : List NodeLock) (highest : ℕ) : Type 0 where
  pub running : IfSome holders.running (IsAmong sessions)
  pub candidate : IfSome holders.candidate (IsAmong sessions)
  pub owners : All (λ lock. IsAmong sessions lock.session) partial
  pub ids : All (λ lock. (1 ≤ lock.id) × (lock.id ≤ highest)) partial
  pub rise : AllPairs (λ lock later. lock.id < later.id) partial
  pub apart : AllPairs ShareNone partial
  pub few : (number : ℕ) → length (locks_of number partial) ≤ most_locks
  pub last : highest ≤ last_lock_id

-- the session of a pending commit is live, or none where the commit persists (RFC 6241 8.4.1)
abbrev pub IsPendingOf : List Session → Pending → Type 0
IsPendingOf sessions pending = IsAmong sessions pending.session ⊎ ((pending.session ≡ 0) × IsSome pending.token)

-- the base is a valid configuration
pub record IsBase (tables : Tables) (sessions : List Session) (pending : Pending) : Type 0 where
  pub base : IsConfiguration tables pending.base
  pub valid : IsValid tables pending.base
  pub session : IsPendingOf sessions pending

-- what is true of every state that a good opening state leads to
pub record IsGood (s : State) : Type 0 where
  pub stores : AreStores s.schema s.running s.candidate
  pub sessions : AreSessions s.sessions s.last
  pub locks : AreLocks s.sessions s.holders s.partial s.last_lock
  pub pending : IfSome s.pending (IsBase s.schema s.sessions)
