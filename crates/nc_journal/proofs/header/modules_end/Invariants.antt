use Rattle.std.proofs.Common.{◌≡◌, ◌-◌, ◌≤◌, length}
use Rattle.nc_outside.specs.Disks.{Told}
use Rattle.nc_journal.specs.inner.Reading.{OnlyReads}
use Rattle.nc_journal.specs.inner.Headers.{HasModules}
use Rattle.nc_journal.proofs.header.modules_end.Given as goal

abbrev pub decreases-loop-done : goal.decreases-loop-done
decreases-loop-done g l = l.count - l.done

abbrev pub invariant-loop-done : goal.invariant-loop-done
invariant-loop-done g l =
    OnlyReads g.D.Disk.seen g.D.Disk.may_leave g.D.Disk.moment g.D.Disk.left_since l.fn.disk l.disk
    × (g.D.Disk.faults l.disk ≡ g.D.Disk.faults l.fn.disk) × (l.end ≤ l.size) × (l.done ≤ l.count)
    × Told (g.D.Disk.seen l.fn.disk) (λ file. length file ≡ l.size → HasModules l.at l.done l.end file)
