-- What became of bodies that were to be kept.
use Rattle.std.specs.Prelude.{◌≡◌, ℕ, ◌≤◌, List, ◌∷◌, Option, Some, None}
use Rattle.nc_names.specs.Counts.{Rose}
use Rattle.nc_outside.specs.Disks.{LeavesOnly}
use Rattle.nc_journal.specs.Files.{Holds, HoldsAmong}
use Rattle.nc_journal.specs.Journal.{Stands, allowed}
use Rattle.nc_journal.specs.declared.journal.Journal.{Journal}
use Rattle.nc_journal.specs.declared.kept.Kept.{Kept}
use Rattle.nc_journal.specs.declared.kept.Kept.TheVariants.{Kept as IsKept, Failed as HasFailed}
use Rattle.nc_journal.specs.declared.kept.Doubt.{Doubt}
use Rattle.nc_journal.specs.declared.kept.Doubt.TheVariants.{Nothing, Earlier, This}

-- bodies that are to be kept (`next`), by a journal with this header that stands for `bodies`, and for those in doubt
pub record Change : Type 0 where
  pub header : List ℕ
  pub bodies : List (List ℕ)
  pub doubt : Option (List (List ℕ))
  pub next : List (List ℕ)

-- The journal stands for the new bodies alone, or for those before; after a failure the answer tells what may come back
-- in their place: nothing, what was in doubt before, or the new bodies.
abbrev pub KeepsBodies : {D : Type 0} (seen : D → Option (List ℕ)) (may_leave : D → List ℕ → Type 0) (change : Change)
    (new : Journal D) → Kept → Type 0
KeepsBodies seen may_leave change new IsKept = Stands seen may_leave change.header new change.next None
KeepsBodies seen may_leave change new (HasFailed Nothing) = Stands seen may_leave change.header new change.bodies None
KeepsBodies seen may_leave change new (HasFailed Earlier) =
    Stands seen may_leave change.header new change.bodies change.doubt
KeepsBodies seen may_leave change new (HasFailed This) =
    Stands seen may_leave change.header new change.bodies (Some change.next)

-- What a call does that is to keep these bodies. Where it answers that they are kept, every crash image of its disk
-- holds them alone; at each moment of it every crash image holds them, or those before, or those in doubt before.
pub record Changes {D : Type 0} (seen : D → Option (List ℕ)) (may_leave : D → List ℕ → Type 0) (moment : D → ℕ)
    (left_since : D → ℕ → List ℕ → Type 0) (change : Change) (old new : Journal D) (kept : Kept) : Type 0 where
  pub keeps : KeepsBodies seen may_leave change new kept
  pub alone : kept ≡ IsKept → (c : List ℕ) → may_leave new.disk c → Holds change.header change.next None c
  pub moments : LeavesOnly moment left_since old.disk new.disk
      (HoldsAmong change.header (change.next ∷ allowed change.bodies change.doubt))

-- a failure comes only where the count of faults rose
abbrev pub KeepsCount : ℕ → ℕ → Kept → Type 0
KeepsCount before now IsKept = now ≡ before
KeepsCount before now (HasFailed doubt) = Rose before now
