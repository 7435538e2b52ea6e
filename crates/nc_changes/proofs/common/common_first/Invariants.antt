use Rattle.std.proofs.Common.{◌≡◌, ◌≤◌, length, take}
use Rattle.nc_changes.specs.inner.Common.{rows_of}
use Rattle.nc_changes.proofs.common.common_first.Given as goal

abbrev pub invariant-loop-at : goal.invariant-loop-at
invariant-loop-at l = (l.at ≤ length l.others) × (take l.at (rows_of l.rows) ≡ take l.at (rows_of l.others))
