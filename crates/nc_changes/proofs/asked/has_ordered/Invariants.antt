use Rattle.std.proofs.Common.{◌≡◌, drop}
use Rattle.std.specs.List.{list_any}
use Rattle.nc_changes.specs.inner.Asked.{is_placed}
use Rattle.nc_changes.specs.inner.Common.{rows_of}
use Rattle.nc_changes.proofs.asked.has_ordered.Given as goal

abbrev pub invariant-loop-row : goal.invariant-loop-row
invariant-loop-row l = list_any (is_placed l.schema) (rows_of (drop l.row-index l.rows)) ≡ list_any (is_placed l.schema) (rows_of l.rows)
