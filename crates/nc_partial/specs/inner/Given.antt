-- What a session is told that asks for nodes, of the partial locks alone.
use Rattle.std.specs.Prelude.{◌+◌, ◌==◌, ◌&&◌, ℕ, Bool, not, if◌then◌else◌, List, length, Option, Result, Ok, Err}
use Rattle.std.specs.List.{find}
use Rattle.std.specs.Option.{option_map_or}
use Rattle.nc_names.specs.declared.path.Path.{Path}
use Rattle.nc_model.specs.State.{NodeLock, last_lock_id, locks_of, locks_some, most_locks}
use Rattle.nc_partial.specs.Granted.{Granted, covered_of}
use Rattle.nc_partial.specs.declared.locks.PartialFault.{PartialFault}
use Rattle.nc_partial.specs.declared.locks.PartialFault.TheVariants.{Taken, TooMany, IdsSpent}

-- of the locks of other sessions that pass a test the one with the lowest lock-id
abbrev pub other_in : Granted → ℕ → (NodeLock → Bool) → Option NodeLock
other_in granted session test = find (λ lock. not (lock.session == session) && test lock) granted.locks

-- what is told where a lock is in the way or none, the session has too many or not, and no lock-id is left or one is
abbrev pub told_of : Option NodeLock → (many spent : Bool) → ℕ → Result ℕ PartialFault
told_of found many spent last =
    option_map_or (λ lock. Err (Taken (covered_of lock))) found
    (if many then Err (TooMany most_locks) else (if spent then Err (IdsSpent last_lock_id) else Ok (last + 1)))

-- what a session is told that asks for these nodes, where so much is granted
abbrev pub given_in : Granted → ℕ → List Path → Result ℕ PartialFault
given_in granted session nodes =
    told_of (other_in granted session (locks_some nodes))
    (length (locks_of session granted.locks) == most_locks) (granted.last == last_lock_id) granted.last
