use Rattle.std.proofs.Common.{◌≡◌, ◌≤◌, length}
use Rattle.nc_nacm.specs.inner.Chains.{IsLinkedFrom}
use Rattle.nc_nacm.proofs.chains.linked.Given as goal

abbrev pub invariant-marks : goal.invariant-marks
invariant-marks l =
    IsLinkedFrom l.from l.chains.marks l.chains.heads l.chains.nexts × (l.from ≤ length l.chains.marks) × (l.chains.marks ≡ l.fn.chains.marks)

abbrev pub decreases-marks : goal.decreases-marks
decreases-marks l = l.from
