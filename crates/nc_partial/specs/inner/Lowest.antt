-- The lowest lock-id among entries.
use Rattle.std.specs.Prelude.{◌≡◌, ◌==◌, ◌&&◌, ℕ, Bool, true, false, if◌then◌else◌, List, Option, Some, None, IfSome, nat_le, nat_lt}
use Rattle.std.specs.List.{list_any}
use Rattle.nc_partial.specs.declared.entry.Covered.{Covered}
use Rattle.nc_partial.specs.declared.entry.Entry.{Entry}

-- of two locks the one with the lower lock-id
abbrev pub lower : Option Covered → Option Covered → Option Covered
lower None other = other
lower (Some one) None = Some one
lower (Some one) (Some other) = if nat_lt other.lock one.lock then Some other else Some one

-- a lock is found whose lock-id is at most that number
abbrev pub reaches : Option Covered → ℕ → Bool
reaches None most = false
reaches (Some found) most = nat_le found.lock most

-- the entry is of that lock
abbrev pub is_of : Covered → Entry → Bool
is_of found entry = entry.id == found.lock && entry.session == found.session

-- of the entries that pass the test, the one with the lowest lock-id names the lock that is found, if any
pub record IsLowest (test : Entry → Bool) (index : List Entry) (found : Option Covered) : Type 0 where
  pub reached : (most : ℕ) → list_any (λ entry. test entry && nat_le entry.id most) index ≡ reaches found most
  pub held : IfSome found (λ it. list_any (λ entry. test entry && is_of it entry) index ≡ true)
