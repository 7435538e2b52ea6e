use Rattle.std.proofs.Common.{◌≡◌, take}
use Rattle.std.specs.List.{flat_map}
use Rattle.nc_device.specs.Header.{line}
use Rattle.nc_device.proofs.header.lines.Given as goal

abbrev pub invariant-loop-name : goal.invariant-loop-name
invariant-loop-name l = l.text ≡ flat_map line (take l.name-index l.name-items)
