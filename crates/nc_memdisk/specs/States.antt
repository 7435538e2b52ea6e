-- What contracts see of a disk in memory, and what a call of it does beside what its trait says.
use Rattle.std.specs.Prelude.{◌≡◌, ◌⊎◌, ℕ, ◌-◌, Bool, true, false, IsTrue, List, [], ◌++◌, length, Contains, Option, Some, None, Result, Ok, Err, if◌then◌else◌}
use Rattle.std.specs.Option.{option_map}
use Rattle.nc_names.specs.Counts.{one_more}
use Rattle.nc_memdisk.specs.declared.done.DoneCall.{DoneCall}
use Rattle.nc_memdisk.specs.Images.{seen_after, IsImage, ImageSince}

-- a disk: the bytes that were durable at first, the calls that it has done since, the numbers of the calls that are
-- to fail, after how many further calls it stops, where it does, and how many device calls and faults there were,
-- and for how many calls no memory was found
pub record DiskState : Type 0 where
  pub first : List ℕ
  pub log : List DoneCall
  pub failing : List ℕ
  pub stop : Option ℕ
  pub calls : ℕ
  pub faults : ℕ
  pub starved : ℕ

-- a disk of these durable bytes, before the first call
abbrev pub new_disk : List ℕ → DiskState
new_disk bytes = record { first = bytes; log = []; failing = []; stop = None; calls = 0; faults = 0; starved = 0 }

-- what a read gives
abbrev pub told : DiskState → List ℕ
told disk = seen_after disk.first disk.log

-- the crash images at this moment
abbrev pub images : DiskState → List ℕ → Type 0
images disk c = IsImage disk.first disk.log c

-- the moment: how many calls were done
abbrev pub moment_of : DiskState → ℕ
moment_of disk = length disk.log

-- the crash images since a moment
abbrev pub images_since : DiskState → ℕ → List ℕ → Type 0
images_since disk t c = ImageSince disk.first disk.log t c

-- the next call is to fail: it is named, or the stop has come
abbrev pub IsToFail : DiskState → Type 0
IsToFail disk = Contains disk.failing (one_more disk.calls) ⊎ (disk.stop ≡ Some 0)

-- the disk after a call that failed, or that did nothing to the file
abbrev pub called : Bool → DiskState → DiskState
called failed disk = record disk {
  calls = one_more disk.calls;
  stop = option_map (λ n. n - 1) disk.stop;
  faults = if failed then one_more disk.faults else disk.faults;
}

-- A call fails because it is to fail or because the file would be too large, and the fault is counted.
pub record FailsAsTold (before now : DiskState) (too_large : Bool) : Type 0 where
  pub why : IsToFail before ⊎ IsTrue too_large
  pub counted : now ≡ called true before

-- a call fails because no memory is found, which is counted too
abbrev pub Starves : DiskState → DiskState → Type 0
Starves before now = now ≡ record (called true before) { starved = one_more before.starved }

-- A call is done that was neither to fail nor made the file too large, and these calls are noted.
pub record IsDone (before now : DiskState) (too_large : Bool) (calls : List DoneCall) : Type 0 where
  pub goes_on : ¬ IsToFail before
  pub fits : too_large ≡ false
  pub noted : now ≡ record (called false before) { log = before.log ++ calls }

-- a call that leaves the file as it is
abbrev pub IsReadingCall : {T E : Type 0} → (before now : DiskState) → (too_large : Bool) → Result T E → Type 0
IsReadingCall before now too_large (Ok value) = IsDone before now too_large []
IsReadingCall before now too_large (Err fault) = FailsAsTold before now too_large

-- a call that changes the file or makes it durable
abbrev pub IsWritingCall : {T E : Type 0}
    → (before now : DiskState) → (too_large : Bool) → List DoneCall → Result T E → Type 0
IsWritingCall before now too_large calls (Ok value) = IsDone before now too_large calls
IsWritingCall before now too_large calls (Err fault) = FailsAsTold before now too_large ⊎ Starves before now
