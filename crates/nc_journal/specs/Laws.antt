-- What the laws say.
use Rattle.std.specs.Prelude.{◌≡◌, ℕ, List, Option}
use Rattle.nc_journal.specs.Files.{IsNew, Holds}
use Rattle.nc_journal.specs.Header.{IsHeader}
use Rattle.nc_journal.specs.Opening.{IsRead}
use Rattle.nc_journal.specs.Refusing.{IsDamaged, HasOtherHeader}

-- a file holds one list of bodies, and one in doubt at most
abbrev pub OneReading : Type 0
OneReading = (header : List ℕ) (one two : List (List ℕ)) (doubt other : Option (List (List ℕ))) (file : List ℕ)
    → Holds header one doubt file → Holds header two other file → (one ≡ two) × (doubt ≡ other)

-- what a file is to a store with this header
pub data Outcome : Type 0 where
  new_file : Outcome
  whole_file : (bodies : List (List ℕ)) → Outcome
  damaged_file : (at : ℕ) → Outcome
  other_file : (at : ℕ) → Outcome

-- what a file has for a header, by each outcome
abbrev pub Reads : List ℕ → List ℕ → Outcome → Type 0
Reads header file new_file = IsNew header file
Reads header file (whole_file bodies) = IsRead header bodies file
Reads header file (damaged_file at) = IsDamaged header at file
Reads header file (other_file at) = HasOtherHeader header at file

-- It is one of these: new, or it has one reading, or it is damaged at one place, or has another header with one first
-- module that differs. So each answer of `begin` that tells of the file is the only one that may come.
abbrev pub OneOutcome : Type 0
OneOutcome = (modules : List (List ℕ)) (features header file : List ℕ) (one two : Outcome)
    → IsHeader modules features header → Reads header file one → Reads header file two → one ≡ two
