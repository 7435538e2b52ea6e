-- The server that the folder of a device makes, and that which its store begins with.
use Rattle.std.specs.Prelude.{◌≡◌, ◌≢◌, ℕ, List, length, Option, IfSome}
use Rattle.nc_names.specs.Counts.{Rose}
use Rattle.nc_names.specs.declared.path.Row.{Row}
use Rattle.nc_device.specs.Header.{IsStoreHeader}
use Rattle.nc_model.specs.State.{State, opening}
use Rattle.nc_outside.specs.Disks.{Told}
use Rattle.nc_outside.specs.declared.files.NamedFile.{NamedFile}
use Rattle.nc_schema.specs.Configuration.{IsConfiguration}
use Rattle.nc_schema.specs.Proper.{IsProperSchema}
use Rattle.nc_schema.specs.Violations.{IsValid}
use Rattle.nc_setup.specs.Folder.{Holds}
use Rattle.nc_setup.specs.Setup.{IsRefused as IsNoSetup, IsSetup}
use Rattle.nc_setup.specs.declared.fault.SetupFault.{SetupFault}
use Rattle.nc_setup.specs.declared.folder.Contents.{Contents}
use Rattle.nc_store.specs.Opening.{BeginsWith, IsRefused, IsUnread}
use Rattle.nc_store.specs.Reopening.{Reopens, Setup as Begun}
use Rattle.nc_store.specs.declared.fault.StoreFault.{StoreFault}
use Rattle.nc_store.specs.declared.fault.StoreFault.TheVariants.{DiskFault}
use Rattle.nc_device.specs.Outside.{Filing, Making, Stored, refusals_of}
use Rattle.nc_device.specs.declared.device.Device.{Device}

-- where the files are told, the folder holds this
abbrev pub HoldsIn : Option (List NamedFile) → List ℕ → Contents → Type 0
HoldsIn files folder contents = IfSome files (λ fs. Holds fs folder contents)

-- what a folder holds makes this device: the schema of its modules and its initial configuration, which is valid; and
-- the header of its store
pub record IsDevice (contents : Contents) (device : Device) : Type 0 where
  pub setup : IsSetup contents (record { schema = device.schema; running = device.initial })
  pub header : IsStoreHeader contents.modules contents.features device.header
  pub modules : device.modules ≡ length contents.modules

-- a folder holds what makes this device
pub record Makes (files : Filing) (folder : List ℕ) (device : Device) : Type 0 where
  pub contents : Contents
  pub holds : HoldsIn files.files folder contents
  pub is : IsDevice contents device

-- what a folder holds makes no server
pub record MakesNone (files : Filing) (folder : List ℕ) (before now : Making) (fault : SetupFault) : Type 0 where
  pub contents : Contents
  pub holds : HoldsIn files.files folder contents
  pub refused : IsNoSetup contents (refusals_of before now) fault

-- what the store of a device is begun with
abbrev pub begun_with : Device → Begun
begun_with device = record { header = device.header; tables = device.schema; initial = device.initial }

-- The server of a device before its first event: running is a valid configuration, and that which the file of its store
-- holds. It counts as many disk faults as the disk had counted before: the opening met none.
pub record Begins (device : Device) (disk : Stored) (first : State) : Type 0 where
  pub base : List Row
  pub is : first ≡ opening device.schema base disk.failed
  pub proper : IsProperSchema device.schema
  pub configuration : IsConfiguration device.schema base
  pub valid : IsValid device.schema base
  pub reads : Told disk.seen (BeginsWith (begun_with device) base)

-- The store was not opened: the fault tells why the file is refused, and then no next start begins with anything of it;
-- or the disk failed, which is told before all else.
pub record Refuses (device : Device) (before now : Stored) (fault : StoreFault) : Type 0 where
  pub refused : Told before.seen (λ old. Told now.seen (λ new. IsRefused (begun_with device) fault old new))
  pub unread : IsUnread fault → Told before.seen (λ file. (among : List (List Row)) →
      ¬ Reopens (begun_with device) among file)
  pub cause : fault ≡ DiskFault → Rose before.failed now.failed
  pub other : fault ≢ DiskFault → now.failed ≡ before.failed
