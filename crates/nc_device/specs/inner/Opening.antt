-- The store of a device, as opening it answers.
use Rattle.std.specs.Prelude.{◌≡◌}
use Rattle.nc_device.specs.Devices.{Refuses}
use Rattle.nc_device.specs.Outside.{Stored}
use Rattle.nc_device.specs.declared.device.Device.{Device}
use Rattle.nc_words.specs.declared.end.RunEnd.{RunEnd}
use Rattle.nc_words.specs.declared.end.RunEnd.TheVariants.{Store, Memory}

-- the store is not opened, or no memory was found for a server over it, and the disk did not fail
abbrev pub Unopens : Device → (before now : Stored) → RunEnd → Type 0
Unopens device before now (Store fault) = Refuses device before now fault
Unopens device before now Memory = now.failed ≡ before.failed
Unopens device before now end = ⊥
