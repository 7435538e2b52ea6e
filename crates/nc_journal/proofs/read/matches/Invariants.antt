use Rattle.std.proofs.Common.{◌≡◌, ℕ, ◌+◌, ◌-◌, ◌≤◌, List, length, take, drop}
use Rattle.nc_outside.specs.Disks.{Told}
use Rattle.nc_journal.specs.Files.{At}
use Rattle.nc_journal.specs.inner.Reading.{OnlyReads}
use Rattle.nc_journal.proofs.read.matches.Given as goal

abbrev pub decreases-loop-done : goal.decreases-loop-done
decreases-loop-done g l = length l.expected - l.done

abbrev pub invariant-loop-done : goal.invariant-loop-done
invariant-loop-done g l =
    (l.done ≤ length l.expected) × OnlyReads g.D.Disk.seen g.D.Disk.may_leave g.D.Disk.moment g.D.Disk.left_since l.fn.disk l.disk
    × Told (g.D.Disk.seen l.fn.disk) (At l.at (take l.done l.expected)) × (g.D.Disk.faults l.disk ≡ g.D.Disk.faults l.fn.disk)
