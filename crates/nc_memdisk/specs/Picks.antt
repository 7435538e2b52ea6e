-- Five crash images of a disk in memory, by the number that picks one.
use Rattle.std.specs.Prelude.{ℕ, ◌/◌, ◌==◌, ◌||◌, nat_lt, List, [], ◌∷◌, length, take, replicate, if◌then◌else◌}
use Rattle.nc_outside.specs.Disks.{written_at}
use Rattle.nc_memdisk.specs.declared.done.DoneCall.{DoneCall}
use Rattle.nc_memdisk.specs.declared.done.DoneCall.TheVariants.{Write, Cut, Sync}
use Rattle.nc_memdisk.specs.Images.{seen_one}

-- what is written of these bytes: 0 none, 1 all, 2 the first half, 3 each byte 255, 4 each byte 1
abbrev pub part : ℕ → List ℕ → List ℕ
part pick bytes =
    if pick == 0 then []
    else if pick == 1 then bytes
    else if pick == 2 then take (length bytes / 2) bytes
    else replicate (length bytes) (if pick == 3 then 255 else 1)

-- What a crash leaves after one call, of an image before it and of what a read gave. A write past the image's end
-- leaves it as it is. A cut is done by picks 1 and 3. A sync leaves what a read gave.
abbrev pub picked_one : ℕ → DoneCall → List ℕ → List ℕ → List ℕ
picked_one pick (Write at bytes) image seen =
    if nat_lt (length image) at then image else written_at at (part pick bytes) image
picked_one pick (Cut size) image seen = if pick == 1 || pick == 3 then take size image else image
picked_one pick Sync image seen = seen

-- what a crash leaves after these calls
abbrev pub picked : ℕ → List ℕ → List ℕ → List DoneCall → List ℕ
picked pick image seen [] = image
picked pick image seen (call ∷ log) = picked pick (picked_one pick call image seen) (seen_one call seen) log
