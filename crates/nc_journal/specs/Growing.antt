-- Where a new area goes, and how far a file grows.
use Rattle.std.specs.Prelude.{◌≡◌, ℕ, ◌+◌, ◌≤◌, nat_le, if◌then◌else◌, List, length}
use Rattle.nc_journal.specs.Format.{areas_begin}
use Rattle.nc_journal.specs.declared.journal.Journal.{Journal}
use Rattle.nc_journal.specs.declared.kept.Kept.{Kept}
use Rattle.nc_journal.specs.declared.kept.Kept.TheVariants.{Kept as IsKept, Failed as HasFailed}

-- no crash image is longer than this
abbrev pub AreWithin : {D : Type 0} → (D → List ℕ → Type 0) → ℕ → D → Type 0
AreWithin may_leave limit disk = (c : List ℕ) → may_leave disk c → length c ≤ limit

-- where an area of so many bytes goes: to the front where it ends there before the live area, which begins at `start`;
-- else directly after the gate of the live area
abbrev pub free_place : (start gate room : ℕ) → ℕ
free_place start gate room = if nat_le (areas_begin + room) start then areas_begin else gate + 1

-- where the live area begins after one at this place was to be kept
abbrev pub start_after : Kept → (before place : ℕ) → ℕ
start_after IsKept before place = place
start_after (HasFailed doubt) before place = before

-- The live area begins at `start`. The file has grown at most to `end`: no crash image is longer than that and than
-- each of those before.
pub record HasGrown {D : Type 0} (may_leave : D → List ℕ → Type 0) (old new : Journal D) (start end : ℕ) : Type 0 where
  pub start_is : new.start ≡ start
  pub within : (limit : ℕ) → end ≤ limit → AreWithin may_leave limit old.disk → AreWithin may_leave limit new.disk
