-- The partial locks of the server, and what a session is told that asks for one (RFC 5717 2.1, 2.4).
use Rattle.std.specs.Prelude.{◌≡◌, ◌+◌, ◌==◌, ℕ, if◌then◌else◌, List, [], ◌∷◌, length, Option, Some, None, Result, Ok, Err}
use Rattle.std.specs.Fmt.{decimal}
use Rattle.std.specs.Option.{option_map_or}
use Rattle.nc_names.specs.declared.cause.CauseKind.{CauseKind}
use Rattle.nc_names.specs.declared.cause.CauseKind.TheVariants.{LockPartial, Limit}
use Rattle.nc_names.specs.declared.path.Path.{Path}
use Rattle.nc_protocol.specs.Asking.{plain_cause}
use Rattle.nc_protocol.specs.declared.request.Cause.{Cause}
use Rattle.nc_model.specs.State.{State, NodeLock, last_lock_id, locks_of, locks_some, most_locks}
use Rattle.nc_model.specs.Verdict.{lock_of_other}
use Rattle.nc_model.specs.Words.{partial_locks_word, lock_ids_word}
use Rattle.nc_partial.specs.declared.entry.Covered.{Covered}
use Rattle.nc_partial.specs.declared.locks.PartialFault.{PartialFault}
use Rattle.nc_partial.specs.declared.locks.PartialFault.TheVariants.{Taken, TooMany, IdsSpent, Memory}

-- the partial locks in the order of their lock-ids, and the last lock-id that was given, or 0
pub record Granted : Type 0 where
  pub locks : List NodeLock
  pub last : ℕ

-- none was ever granted
abbrev pub none_granted : Granted
none_granted = record { locks = []; last = 0 }

-- what a state has of them
abbrev pub granted_of : State → Granted
granted_of s = record { locks = s.partial; last = s.last_lock }

-- so it is in each state that has these partial locks
abbrev pub InStates : Granted → (State → Type 0) → Type 0
InStates granted P = (s : State) → granted_of s ≡ granted → P s

-- a partial lock by its lock-id and its session
abbrev pub covered_of : NodeLock → Covered
covered_of lock = record { lock = lock.id; session = lock.session }

-- what a session is told that asks for nodes: another session's partial lock has one of them; it has as many as it may
-- have; no lock-id is left; or the lock-id that it gets (RFC 5717 2.4.1)
abbrev pub lock_given : State → ℕ → List Path → Result ℕ PartialFault
lock_given s session nodes =
    option_map_or (λ lock. Err (Taken (covered_of lock)))
    (lock_of_other s session (locks_some nodes))
    (if length (locks_of session s.partial) == most_locks then Err (TooMany most_locks)
    else (if s.last_lock == last_lock_id then Err (IdsSpent last_lock_id) else Ok (s.last_lock + 1)))

-- so it is told, unless memory ends
abbrev pub IsTold : Result ℕ PartialFault → Result ℕ PartialFault → Type 0
IsTold given (Err Memory) = Unit {0}
IsTold given result = result ≡ given

-- a cause that names a partial lock and the session that holds it
abbrev pub covered_cause : CauseKind → Covered → Cause
covered_cause kind covered = plain_cause kind (decimal covered.lock ∷ decimal covered.session ∷ [])

-- the cause of what is told, if it is a refusal
abbrev pub refusal : Result ℕ PartialFault → Option Cause
refusal (Ok id) = None
refusal (Err (Taken covered)) = Some (covered_cause LockPartial covered)
refusal (Err (TooMany held)) = Some (plain_cause Limit (partial_locks_word ∷ []))
refusal (Err (IdsSpent last)) = Some (plain_cause Limit (lock_ids_word ∷ []))
refusal (Err Memory) = None
