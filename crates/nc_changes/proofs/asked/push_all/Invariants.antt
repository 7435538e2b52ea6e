use Rattle.std.proofs.Common.{◌≡◌, ◌++◌, take}
use Rattle.nc_changes.specs.inner.Common.{rows_of}
use Rattle.nc_changes.proofs.asked.push_all.Given as goal

abbrev pub invariant-loop-row : goal.invariant-loop-row
invariant-loop-row l = rows_of l.asked ≡ rows_of l.fn.asked ++ rows_of (take l.row-index l.rows)
