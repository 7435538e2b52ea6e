-- Why a file is refused, and at which place.
use Rattle.std.specs.Prelude.{◌≡◌, ◌≢◌, ◌⊎◌, ℕ, ◌<◌, ◌≤◌, ◌^◌, nat_eq, List, ◌∷◌, length, take, slice_get, Option, Some}
use Rattle.nc_outside.specs.Disks.{LeavesOnly, Told, Within}
use Rattle.nc_journal.specs.Format.{mark, number, slot_place, areas_begin, chooser_place, recorded}
use Rattle.nc_names.specs.Limits.{body_limit}
use Rattle.nc_journal.specs.Files.{At, IsNew}
use Rattle.nc_journal.specs.Header.{IsHeader, HasHeader, DiffersAt}
use Rattle.nc_journal.specs.Opening.{IsFront, IsSoFar, Opens}
use Rattle.nc_journal.specs.declared.fault.JournalFault.{JournalFault}
use Rattle.nc_journal.specs.declared.fault.JournalFault.TheVariants.{DiskFault, Damaged, OtherHeader, Memory}

-- the first place at which the front of a file is not these bytes: it has another byte there, or ends
pub record IsFirstUnlike (bytes : List ℕ) (at : ℕ) (file : List ℕ) : Type 0 where
  pub within : at < length bytes
  pub front : At 0 (take at bytes) file
  pub unlike : slice_get file at ≢ slice_get bytes at

-- no gate stands where one is due, or an open gate without a record whose body is within the limit
abbrev pub HasNoRecord : ℕ → List ℕ → Type 0
HasNoRecord at file = (length file ≤ at)
    ⊎ ((slice_get file at ≡ Some 1) × ((body : List ℕ) → length body ≤ body_limit → ¬ At at (recorded body) file))

-- The file is damaged at this place: the first byte that is not that of the mark; the end of the file where it ends
-- before the areas; the chosen slot where it names no place of an area; the end of the file where it ends within the
-- header of the live area; the gate after the last whole record, where no gate or no whole record is.
pub data IsDamaged (header : List ℕ) (at : ℕ) (file : List ℕ) : Type 0 where
  bad_mark : ¬ IsNew header file → IsFirstUnlike (1 ∷ mark) at file → IsDamaged header at file
  short_front : At 0 (1 ∷ mark) file → length file < areas_begin → at ≡ length file → IsDamaged header at file
  bad_slot : (byte place : ℕ) → At 0 (1 ∷ mark) file → areas_begin ≤ length file
      → slice_get file chooser_place ≡ Some byte
      → at ≡ slot_place (nat_eq byte 1) → At at (number place) file → place < 2 ^ 64
      → (place < areas_begin) ⊎ (length file < place) → IsDamaged header at file
  short_header : (byte place : ℕ) → IsFront file byte (nat_eq byte 1) place
      → ¬ HasHeader place file → at ≡ length file → IsDamaged header at file
  bad_record : (byte place : ℕ) (done : List (List ℕ)) → IsFront file byte (nat_eq byte 1) place
      → IsSoFar header place done file at → HasNoRecord at file → IsDamaged header at file

-- The live area begins with another header, and this is the number of the first module in which they differ: of the
-- first that is another one or that one of them lacks, or the number of modules where only the features differ.
pub record HasOtherHeader (header : List ℕ) (at : ℕ) (file : List ℕ) : Type 0 where
  pub byte : ℕ
  pub place : ℕ
  pub front : IsFront file byte (nat_eq byte 1) place
  pub ours : List (List ℕ)
  pub our_features : List ℕ
  pub is_ours : IsHeader ours our_features header
  pub theirs : List (List ℕ)
  pub their_features : List ℕ
  pub other : List ℕ
  pub is_theirs : IsHeader theirs their_features other
  pub stands : At place other file
  pub not_ours : other ≢ header
  pub differs : DiffersAt ours theirs at

-- why a file with this header is not opened, where an answer tells it
abbrev pub IsRefused : List ℕ → JournalFault → List ℕ → Type 0
IsRefused header DiskFault file = Unit {0}
IsRefused header (Damaged at) file = IsDamaged header at file
IsRefused header (OtherHeader at) file = HasOtherHeader header at file
IsRefused header Memory file = Unit {0}

-- no start with this header begins with a file: it is neither new nor has a reading
abbrev pub HasNoReading : List ℕ → List ℕ → Type 0
HasNoReading header file = (bodies : List (List ℕ)) → ¬ Opens header bodies file

-- a file is as it was: a read gives what it gave, and a crash leaves nothing else than before, at no moment
pub record IsAsItWas {D : Type 0} (seen : D → Option (List ℕ)) (may_leave : D → List ℕ → Type 0) (moment : D → ℕ)
    (left_since : D → ℕ → List ℕ → Type 0) (start end : D) : Type 0 where
  pub same : seen end ≡ seen start
  pub images : Within (may_leave start) (may_leave end)
  pub moments : LeavesOnly moment left_since start end (may_leave start)

-- A file that is not opened is left as it was. Where the disk failed, a new file may have been made in part, and a torn
-- byte written anew; a file without a reading is as it was there too.
abbrev pub IsLeftAlone : {D : Type 0} (header : List ℕ) (seen : D → Option (List ℕ)) (may_leave : D → List ℕ → Type 0)
    (moment : D → ℕ) (left_since : D → ℕ → List ℕ → Type 0) → JournalFault → (start end : D) → Type 0
IsLeftAlone header seen may_leave moment left_since DiskFault start end =
    Told (seen start) (λ file. HasNoReading header file → IsAsItWas seen may_leave moment left_since start end)
IsLeftAlone header seen may_leave moment left_since (Damaged at) start end =
    IsAsItWas seen may_leave moment left_since start end
IsLeftAlone header seen may_leave moment left_since (OtherHeader at) start end =
    IsAsItWas seen may_leave moment left_since start end
IsLeftAlone header seen may_leave moment left_since Memory start end =
    IsAsItWas seen may_leave moment left_since start end
