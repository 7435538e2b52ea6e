use Rattle.std.proofs.Common.{◌≡◌, ◌≤◌, length, take}
use Rattle.nc_branches.specs.inner.Order.{AreUnder}
use Rattle.nc_branches.proofs.whole.run_below.Given as goal

abbrev pub invariant-loop-row : goal.invariant-loop-row
invariant-loop-row l = record { same : l.count ≡ l.row-index; within : l.count ≤ length l.rows; under : AreUnder l.steps (take l.count l.rows) }
