use Rattle.std.proofs.Common.{◌≡◌, take}
use Rattle.nc_memdisk.specs.Images.{seen_after}
use Rattle.nc_memdisk.specs.Picks.{picked}
use Rattle.nc_memdisk.proofs.picks.image_of.Given as goal

abbrev pub invariant-loop-call : goal.invariant-loop-call
invariant-loop-call l =
    (l.image ≡ picked l.pick l.first l.first (take l.call-index l.log))
    × (l.seen ≡ seen_after l.first (take l.call-index l.log))
