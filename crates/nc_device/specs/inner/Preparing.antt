-- What the folder of a device comes to, as it is found.
use Rattle.std.specs.Prelude.{◌≡◌, ℕ, List, Option, Result, Ok, Err}
use Rattle.nc_names.specs.Counts.{Rose}
use Rattle.nc_outside.specs.declared.files.NamedFile.{NamedFile}
use Rattle.nc_setup.specs.Setup.{IsRefused}
use Rattle.nc_setup.specs.declared.folder.Contents.{Contents}
use Rattle.nc_device.specs.Devices.{HoldsIn, IsDevice, Makes, MakesNone}
use Rattle.nc_device.specs.Outside.{Filing, Making, refusals_of}
use Rattle.nc_device.specs.declared.device.Device.{Device}
use Rattle.nc_words.specs.declared.end.RunEnd.{RunEnd}
use Rattle.nc_words.specs.declared.end.RunEnd.TheVariants.{Files, Setup, Memory}

-- the folder was read, or the files failed, or no memory was found
abbrev pub IsRead : Option (List NamedFile) → List ℕ → ℕ → ℕ → Result Contents RunEnd → Type 0
IsRead files folder before now (Ok contents) = HoldsIn files folder contents × (now ≡ before)
IsRead files folder before now (Err Files) = Rose before now
IsRead files folder before now (Err Memory) = now ≡ before
IsRead files folder before now (Err end) = ⊥

-- contents make a device, or none, or no memory was found
abbrev pub MakesOf : Contents → Making → Making → Result Device RunEnd → Type 0
MakesOf contents before now (Ok device) = IsDevice contents device
MakesOf contents before now (Err (Setup fault)) = IsRefused contents (refusals_of before now) fault
MakesOf contents before now (Err Memory) = Unit {0}
MakesOf contents before now (Err end) = ⊥

-- what was read makes a device, or none
abbrev pub Prepares : List ℕ → Filing → Filing → Making → Making → Result Device RunEnd → Type 0
Prepares folder files later before now (Ok device) = Makes files folder device × (later ≡ files)
Prepares folder files later before now (Err Files) =
    Rose files.failed later.failed × (later ≡ record files { failed = later.failed })
Prepares folder files later before now (Err Memory) = later ≡ files
Prepares folder files later before now (Err (Setup fault)) = MakesNone files folder before now fault × (later ≡ files)
Prepares folder files later before now (Err end) = ⊥
