-- What a read of a disk in memory gives after the calls that it has done, and every crash image.
use Rattle.std.specs.Prelude.{◌≡◌, ◌⊎◌, ℕ, ◌≤◌, List, [], ◌∷◌, length, take}
use Rattle.nc_outside.specs.Disks.{written_at, Torn, CutTo, After}
use Rattle.nc_memdisk.specs.declared.done.DoneCall.{DoneCall}
use Rattle.nc_memdisk.specs.declared.done.DoneCall.TheVariants.{Write, Cut, Sync}

-- what a read gives after one call, of a file
abbrev pub seen_one : DoneCall → List ℕ → List ℕ
seen_one (Write at bytes) file = written_at at bytes file
seen_one (Cut size) file = take size file
seen_one Sync file = file

-- what a read gives after these calls
abbrev pub seen_after : List ℕ → List DoneCall → List ℕ
seen_after file [] = file
seen_after file (call ∷ log) = seen_after (seen_one call file) log

-- The crash images after one call, of those before it and of what a read gave: a write may be torn, a cut may be
-- done or not, and a sync leaves what a read gives and nothing else.
abbrev pub image_one : DoneCall → (List ℕ → Type 0) → List ℕ → List ℕ → Type 0
image_one (Write at bytes) images seen c = After (Torn at (length bytes)) images c ⊎ (c ≡ written_at at bytes seen)
image_one (Cut size) images seen c = After (CutTo size) images c ⊎ (c ≡ take size seen)
image_one Sync images seen c = c ≡ seen

-- the crash images after these calls
abbrev pub image_after : (List ℕ → Type 0) → List ℕ → List DoneCall → List ℕ → Type 0
image_after images seen [] c = images c
image_after images seen (call ∷ log) c = image_after (image_one call images seen) (seen_one call seen) log c

-- the crash images of a file that was durable at first
abbrev pub IsImage : List ℕ → List DoneCall → List ℕ → Type 0
IsImage first log c = image_after (λ d. d ≡ first) first log c

-- the crash images of every moment since so many calls were done
abbrev pub ImageSince : List ℕ → List DoneCall → ℕ → List ℕ → Type 0
ImageSince first log t c = (k : ℕ) × (t ≤ k) × (k ≤ length log) × IsImage first (take k log) c
