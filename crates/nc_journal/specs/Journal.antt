-- What a journal stands for.
use Rattle.std.specs.Prelude.{◌≡◌, ℕ, ◌+◌, ◌≤◌, ◌^◌, Bool, true, not, List, [], ◌∷◌, ◌++◌, length, Option, Some, None, is_some}
use Rattle.nc_journal.specs.Format.{chooser_place, chooser, gate_place}
use Rattle.nc_journal.specs.Images.{IsClean, HasOpenGate, HasOpenChooser}
use Rattle.nc_journal.specs.declared.journal.Journal.{Journal}
use Rattle.nc_journal.specs.declared.journal.Undo.{Undo}

-- the disk of a journal, and how many records its live area has
abbrev pub disk_of : {D : Type 0} → Journal D → D
disk_of journal = journal.disk

-- how many records there are
abbrev pub records_of : {D : Type 0} → Journal D → ℕ
records_of journal = journal.records

-- where the live area of a journal stands in the file, and where its last gate, which is closed
abbrev pub start_of : {D : Type 0} → Journal D → ℕ
start_of journal = journal.start

-- where the gate stands
abbrev pub gate_of : {D : Type 0} → Journal D → ℕ
gate_of journal = journal.gate

-- the disk tells its bytes, and the journal knows where the live area's gate stands and how many records it has
pub record IsPlaced {D : Type 0} (seen : D → Option (List ℕ)) (header : List ℕ) (journal : Journal D)
    (bodies : List (List ℕ)) : Type 0 where
  pub told : is_some (seen journal.disk) ≡ true
  pub gate : journal.gate ≡ gate_place header bodies journal.start
  pub count : journal.records ≡ length bodies

-- A journal stands for these bodies, and others may come back in their place after a failure (`doubt`). Then it notes
-- the byte that is to be written anew first: a gate or the chooser.
pub data Stands {D : Type 0} (seen : D → Option (List ℕ)) (may_leave : D → List ℕ → Type 0) (header : List ℕ)
    (journal : Journal D) (bodies : List (List ℕ)) (doubt : Option (List (List ℕ))) : Type 0 where
  at_rest : IsPlaced seen header journal bodies → journal.undo ≡ None → doubt ≡ None
      → ((c : List ℕ) → may_leave journal.disk c → IsClean header journal.second journal.start bodies c)
      → Stands seen may_leave header journal bodies doubt
  gate_open : (body : List ℕ) → IsPlaced seen header journal bodies
      → journal.undo ≡ Some (record { at = journal.gate; byte = 0 }) → doubt ≡ Some (bodies ++ body ∷ [])
      → ((c : List ℕ) → may_leave journal.disk c → HasOpenGate header journal.second journal.start bodies body c)
      → Stands seen may_leave header journal bodies doubt
  chooser_open : (other : ℕ) (others : List (List ℕ)) → IsPlaced seen header journal bodies
      → journal.undo ≡ Some (record { at = chooser_place; byte = chooser journal.second }) → doubt ≡ Some others
      → ((c : List ℕ) → may_leave journal.disk c
      → HasOpenChooser header journal.second journal.start bodies other others c)
      → Stands seen may_leave header journal bodies doubt

-- a journal stands for something
pub record IsSound {D : Type 0} (seen : D → Option (List ℕ)) (may_leave : D → List ℕ → Type 0) (header : List ℕ)
    (journal : Journal D) : Type 0 where
  pub bodies : List (List ℕ)
  pub doubt : Option (List (List ℕ))
  pub stands : Stands seen may_leave header journal bodies doubt

-- the bodies that a file may hold while a byte of it is in doubt
abbrev pub allowed : List (List ℕ) → Option (List (List ℕ)) → List (List (List ℕ))
allowed bodies None = bodies ∷ []
allowed bodies (Some others) = bodies ∷ others ∷ []
