use Rattle.std.proofs.Common.{map, take}
use Rattle.nc_filter.specs.inner.Tables.{IsIndex}
use Rattle.nc_filter.proofs.index.Index.new.Given as goal

abbrev pub invariant-loop-row : goal.invariant-loop-row
invariant-loop-row l =
    IsIndex l.table (map (λ row. row.now) (take l.row-index l.rows))
