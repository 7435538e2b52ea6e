use Rattle.std.proofs.Common.{◌≡◌, ◌++◌, drop}
use Rattle.std.specs.List.{filter}
use Rattle.nc_changes.specs.inner.Asked.{is_placed}
use Rattle.nc_changes.specs.inner.Common.{rows_of}
use Rattle.nc_changes.proofs.asked.push_ordered.Given as goal

abbrev pub invariant-loop-row : goal.invariant-loop-row
invariant-loop-row l =
    rows_of l.asked ++ filter (is_placed l.schema) (rows_of (drop l.row-index l.rows))
    ≡ rows_of l.fn.asked ++ filter (is_placed l.schema) (rows_of l.rows)
