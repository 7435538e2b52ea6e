-- The server of a folder, or why there is none.
use Rattle.std.specs.Prelude.{◌≡◌, ℕ, List}
use Rattle.nc_names.specs.Counts.{Rose}
use Rattle.nc_model.specs.State.{State}
use Rattle.nc_schema.specs.Tables.{Tables}
use Rattle.nc_device.specs.Devices.{Begins, Makes, MakesNone, Refuses}
use Rattle.nc_device.specs.Outside.{Ground}
use Rattle.nc_device.specs.declared.device.Device.{Device}
use Rattle.nc_words.specs.declared.end.RunEnd.{RunEnd}
use Rattle.nc_words.specs.declared.end.RunEnd.TheVariants.{Files, Setup, Store, Memory}

-- a server that begins in this state, of a device with this schema and so many modules; and its store was opened so
pub record IsReady (folder : List ℕ) (before now : Ground) (first : State) (schema : Tables) (modules : ℕ)
    (IsBegunOf : Device → Type 0) : Type 0 where
  pub device : Device
  pub makes : Makes before.files folder device
  pub begins : Begins device before.disk first
  pub schema_is : schema ≡ device.schema
  pub modules_is : modules ≡ device.modules
  pub files : now.files ≡ before.files
  pub begun : IsBegunOf device

-- the files failed, or no memory was found and the disk did not fail, or the folder makes no device, or its store is
-- not opened
abbrev pub Fails : List ℕ → (before now : Ground) → RunEnd → Type 0
Fails folder before now Files =
    Rose before.files.failed now.files.failed × (now ≡ record before { files = now.files; maker = now.maker })
Fails folder before now Memory =
    (now ≡ record before { disk = now.disk; maker = now.maker }) × (now.disk.failed ≡ before.disk.failed)
Fails folder before now (Setup fault) =
    MakesNone before.files folder before.maker now.maker fault × (now ≡ record before { maker = now.maker })
Fails folder before now (Store fault) =
    (device : Device) × Makes before.files folder device × Refuses device before.disk now.disk fault
    × (now ≡ record before { disk = now.disk; maker = now.maker })
Fails folder before now end = ⊥
