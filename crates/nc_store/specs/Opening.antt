-- Why a store is not opened.
use Rattle.std.specs.Prelude.{◌≡◌, ◌⊎◌, ◌-◌, ◌^◌, ℕ, Bool, Contains, List, [], ◌∷◌, ◌++◌, None, min}
use Rattle.nc_names.specs.declared.path.Row.{Row}
use Rattle.nc_journal.specs.Format.{gate_place}
use Rattle.nc_journal.specs.Images.{IsClean}
use Rattle.nc_journal.specs.Opening.{IsRead, Opens}
use Rattle.nc_journal.specs.Refusing.{HasOtherHeader, IsDamaged}
use Rattle.nc_journal.specs.declared.fault.JournalFault.{JournalFault}
use Rattle.nc_journal.specs.declared.fault.JournalFault.TheVariants.{DiskFault as JournalDiskFault, OtherHeader}
use Rattle.nc_journal.specs.declared.fault.JournalFault.TheVariants.{Damaged as JournalDamaged, Memory as JournalMemory}
use Rattle.nc_schema.specs.Configuration.{IsConfiguration}
use Rattle.nc_schema.specs.Violations.{IsValid}
use Rattle.nc_store.specs.Keeping.{Storing}
use Rattle.nc_store.specs.Reopening.{IsBase, IsValidRecord, Reopens, Setup}
use Rattle.nc_store.specs.declared.fault.StoreFault.{StoreFault}
use Rattle.nc_store.specs.declared.fault.StoreFault.TheVariants.{DiskFault, Damaged, OtherModules, Memory}

-- the fault of a journal, as the store tells it; a number of a module has four bytes
abbrev pub fault_by : JournalFault → StoreFault
fault_by JournalDiskFault = DiskFault
fault_by (JournalDamaged at) = Damaged at
fault_by (OtherHeader at) = OtherModules (min at (2 ^ 32 - 1))
fault_by JournalMemory = Memory

-- the last record of the live area, whose gate stands at this place, spells no valid configuration; the file is handed
-- back with the same records, and with no byte torn
pub record HasBadRecord (setup : Setup) (at : ℕ) (before after : List ℕ) : Type 0 where
  pub second : Bool
  pub place : ℕ
  pub earlier : List (List ℕ)
  pub body : List ℕ
  pub read : IsRead setup.header (earlier ++ body ∷ []) before
  pub whole : IsClean setup.header second place (earlier ++ body ∷ []) after
  pub gate : at ≡ gate_place setup.header earlier place
  pub none : (rows : List Row) → ¬ IsValidRecord setup.tables body rows

-- Why a file is not opened, where an answer tells it: it is damaged at this place, or its last record is a bad one; or
-- the first module that differs has this number. It is left as it was, but for a torn byte before a bad record.
abbrev pub IsRefused : Setup → StoreFault → (before after : List ℕ) → Type 0
IsRefused setup DiskFault before after = Unit {0}
IsRefused setup (Damaged at) before after =
    (IsDamaged setup.header at before × (after ≡ before)) ⊎ HasBadRecord setup at before after
IsRefused setup (OtherModules place) before after = HasOtherHeader setup.header place before × (after ≡ before)
IsRefused setup Memory before after = Unit {0}

-- the fault says that the file has no reading by these modules
abbrev pub IsUnread : StoreFault → Type 0
IsUnread DiskFault = ⊥
IsUnread (Damaged at) = Unit {0}
IsUnread (OtherModules place) = Unit {0}
IsUnread Memory = ⊥

-- the store begins with this configuration, which is valid (RFC 7950 8.1), and has none in doubt
pub record HasBegun {D : Type 0} (setup : Setup) (store : Storing D) (running : List Row) : Type 0 where
  pub setup_is : store.setup ≡ setup
  pub base_is : store.base ≡ running
  pub no_doubt : store.doubt ≡ None
  pub configuration : IsConfiguration setup.tables running
  pub valid : IsValid setup.tables running

-- A store that was opened begins with what its file holds: the file is new or has a reading, and the configuration is
-- that of its last record, or the initial one. Whatever a crash left, it is one of those for which the file stands.
pub record BeginsWith (setup : Setup) (running : List Row) (file : List ℕ) : Type 0 where
  pub bodies : List (List ℕ)
  pub opens : Opens setup.header bodies file
  pub base_is : IsBase setup.tables setup.initial bodies running
  pub is_among : (among : List (List Row)) → Reopens setup among file → Contains among running
