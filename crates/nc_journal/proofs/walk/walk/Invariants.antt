use Rattle.std.proofs.Common.{◌≡◌, ℕ, ◌+◌, ◌-◌, ◌<◌, ◌≤◌, List, length, slice_get, Option, Some}
use Rattle.nc_outside.specs.Disks.{Told}
use Rattle.nc_journal.specs.Files.{At}
use Rattle.nc_journal.specs.Opening.{IsArea, IsSoFar}
use Rattle.nc_journal.specs.inner.Reading.{OnlyReads, HasWalked}
use Rattle.nc_journal.proofs.walk.walk.Given as goal

abbrev pub decreases-loop-byte : goal.decreases-loop-byte
decreases-loop-byte g l = l.size - l.at

abbrev pub invariant-loop-byte : goal.invariant-loop-byte
invariant-loop-byte g l =
    OnlyReads g.D.Disk.seen g.D.Disk.may_leave g.D.Disk.moment g.D.Disk.left_since l.fn.disk l.disk
    × (g.D.Disk.faults l.disk ≡ g.D.Disk.faults l.fn.disk) × (l.at < l.size)
    × Told (g.D.Disk.seen l.fn.disk) (λ file. slice_get file l.at ≡ Some l.byte)
    × Told (g.D.Disk.seen l.fn.disk) (λ file. length file ≡ l.size → (header : List ℕ) (place : ℕ) (bodies : List (List ℕ)) (gate : ℕ) → IsArea header place bodies gate file → l.fn.start ≡ place + length header
    → HasWalked header place bodies file l.bodies l.at l.byte)
    × Told (g.D.Disk.seen l.fn.disk) (λ file. (header : List ℕ) (place : ℕ) → l.fn.start ≡ place + length header → At place header file
    → IsSoFar header place l.bodies file l.at)
