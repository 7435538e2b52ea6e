use Rattle.std.proofs.Common.{◌≡◌, ◌-◌, ◌≤◌, length, take}
use Rattle.nc_outside.specs.Disks.{Told}
use Rattle.nc_journal.specs.Files.{At}
use Rattle.nc_journal.specs.inner.Reading.{OnlyReads}
use Rattle.nc_journal.proofs.front.first_unlike.Given as goal

abbrev pub decreases-loop-at : goal.decreases-loop-at
decreases-loop-at g l = length l.expected - l.at

abbrev pub invariant-loop-at : goal.invariant-loop-at
invariant-loop-at g l =
    (l.at ≤ length l.expected) × OnlyReads g.D.Disk.seen g.D.Disk.may_leave g.D.Disk.moment g.D.Disk.left_since l.fn.disk l.disk
    × Told (g.D.Disk.seen l.fn.disk) (At 0 (take l.at l.expected)) × (g.D.Disk.faults l.disk ≡ g.D.Disk.faults l.fn.disk)
