-- Bodies that were kept.
use Rattle.std.proofs.Common.{◌≡◌, ℕ, List, ◌∷◌, Option, Some, None}
use Rattle.nc_outside.specs.Disks.{LeavesOnly}
use Rattle.nc_journal.specs.Files.{HoldsAmong}
use Rattle.nc_journal.specs.Journal.{Stands, allowed}
use Rattle.nc_journal.specs.Keeping.{Change, Changes}
use Rattle.nc_journal.specs.declared.journal.Journal.{Journal}
use Rattle.nc_journal.specs.declared.kept.Kept.{Kept}
use Rattle.nc_journal.specs.declared.kept.Kept.TheVariants.{Kept as IsKept}
use Rattle.nc_journal.proofs.Standing.{stands_alone}

pub changes_made : {D : Type 0} (seen : D → Option (List ℕ)) (may_leave : D → List ℕ → Type 0) (moment : D → ℕ)
    (left_since : D → ℕ → List ℕ → Type 0)
    (seen_is_left : (disk : D) (bytes : List ℕ) → seen disk ≡ Some bytes → may_leave disk bytes)
    (change : Change) (old new : Journal D) → Stands seen may_leave change.header new change.next None
    → LeavesOnly moment left_since old.disk new.disk
    (HoldsAmong change.header (change.next ∷ allowed change.bodies change.doubt))
    → Changes seen may_leave moment left_since change old new IsKept
changes_made seen may_leave moment left_since seen_is_left change old new stands moments = record {
  keeps = stands;
  alone = λ kept. stands_alone seen may_leave moment left_since seen_is_left change.header new change.next stands;
  moments = moments;
}
