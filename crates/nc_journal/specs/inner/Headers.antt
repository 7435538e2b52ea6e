-- What was read of a header that is not ours, and of the records of an area that could not be read.
use Rattle.std.specs.Prelude.{◌≡◌, ℕ, ◌+◌, ◌<◌, ◌^◌, List, ◌++◌, length, All, Option}
use Rattle.std.specs.List.{flat_map}
use Rattle.nc_outside.specs.Disks.{Told}
use Rattle.nc_journal.specs.Format.{number}
use Rattle.nc_journal.specs.Files.{At}
use Rattle.nc_journal.specs.Header.{counted, IsHeader, HasHeader, DiffersAt}
use Rattle.nc_journal.specs.Opening.{IsSoFar}
use Rattle.nc_journal.specs.Refusing.{HasNoRecord}
use Rattle.nc_journal.specs.declared.fault.JournalFault.{JournalFault}
use Rattle.nc_journal.specs.declared.fault.JournalFault.TheVariants.{DiskFault, Damaged, OtherHeader, Memory}

-- the fault tells that the file is damaged at this place, and this is so of the file
abbrev pub TellsDamage : Option (List ℕ) → ℕ → (List ℕ → Type 0) → JournalFault → Type 0
TellsDamage seen at P fault = (fault ≡ Damaged at) × Told seen P

-- a text with its length stands at a place, and ends there
pub record HasCounted (at end : ℕ) (file : List ℕ) : Type 0 where
  pub text : List ℕ
  pub stands : At at (counted text) file
  pub small : length text < 2 ^ 32
  pub end_is : end ≡ at + (4 + length text)

-- so many texts with their lengths stand at a place, and end there
pub record HasModules (at count end : ℕ) (file : List ℕ) : Type 0 where
  pub modules : List (List ℕ)
  pub stands : At at (flat_map counted modules) file
  pub count_is : length modules ≡ count
  pub small : All (λ text. length text < 2 ^ 32) modules
  pub end_is : end ≡ at + length (flat_map counted modules)

-- features with their length stand at a place
pub record HasFeatures (at : ℕ) (file : List ℕ) : Type 0 where
  pub features : List ℕ
  pub stands : At at (number (length features) ++ features) file
  pub fits : length features < 2 ^ 64

-- a header of so many modules stands at a place
pub record HasHeaderOf (place count : ℕ) (file : List ℕ) : Type 0 where
  pub has : HasHeader place file
  pub count_is : length has.modules ≡ count

-- a header stands at a place that differs from ours in the module of this number first
pub record HasOther (header : List ℕ) (place at : ℕ) (file : List ℕ) : Type 0 where
  pub ours : List (List ℕ)
  pub our_features : List ℕ
  pub is_ours : IsHeader ours our_features header
  pub theirs : HasHeader place file
  pub differs : DiffersAt ours theirs.modules at

-- why the records of the area at a place could not be read
abbrev pub IsStuck : List ℕ → ℕ → JournalFault → List ℕ → Type 0
IsStuck header place DiskFault file = Unit {0}
IsStuck header place (Damaged at) file =
    (done : List (List ℕ)) × IsSoFar header place done file at × HasNoRecord at file
IsStuck header place (OtherHeader at) file = ⊥
IsStuck header place Memory file = Unit {0}
