use Rattle.std.proofs.Common.{◌≡◌, List, take}
use Rattle.nc_names.specs.declared.path.Row.{Row}
use Rattle.nc_filter.specs.inner.Tables.{IsIndex}
use Rattle.nc_filter.specs.inner.Runs.{IsTable}
use Rattle.nc_filter.proofs.table.Table.new.Given as goal

abbrev pub invariant-loop-run : goal.invariant-loop-run
invariant-loop-run l =
    (l.number ≡ l.run-index) × ((all : List Row) → IsIndex l.basis.index.table all → IsTable l.basis.schema.now all l.upper l.items (take l.run-index l.rows))
