use Rattle.std.proofs.Common.{◌≡◌, ℕ, ◌+◌, ◌-◌, ◌≤◌, List, length, take}
use Rattle.std.specs.List.{flat_map}
use Rattle.nc_outside.specs.Disks.{Told}
use Rattle.nc_journal.specs.Header.{counted, IsHeader, HasHeader}
use Rattle.nc_journal.specs.inner.Reading.{OnlyReads}
use Rattle.nc_journal.proofs.Headers.{HasShared}
use Rattle.nc_journal.proofs.header.common.Given as goal

abbrev pub decreases-loop-done : goal.decreases-loop-done
decreases-loop-done g l = l.most - l.done

abbrev pub invariant-loop-done : goal.invariant-loop-done
invariant-loop-done g l =
    (l.done ≤ l.most) × OnlyReads g.D.Disk.seen g.D.Disk.may_leave g.D.Disk.moment g.D.Disk.left_since l.fn.disk l.disk
    × ((ours : List (List ℕ)) (features : List ℕ) → IsHeader ours features l.header
    → l.from ≡ 4 + length (flat_map counted (take l.done ours)))
    × Told (g.D.Disk.seen l.fn.disk) (λ file. (ours : List (List ℕ)) (features : List ℕ) → IsHeader ours features l.header
    → (theirs : HasHeader l.place file) → length theirs.modules ≡ l.count → HasShared ours theirs.modules l.done)
    × (g.D.Disk.faults l.disk ≡ g.D.Disk.faults l.fn.disk)
