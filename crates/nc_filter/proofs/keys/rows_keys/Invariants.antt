use Rattle.std.proofs.Common.{◌≡◌, ◌++◌, drop}
use Rattle.std.specs.Prelude.{map}
use Rattle.std.specs.List.{flat_map}
use Rattle.nc_filter.specs.inner.Keys.{row_keys}
use Rattle.nc_filter.proofs.keys.rows_keys.Given as goal

abbrev pub invariant-loop-row : goal.invariant-loop-row
invariant-loop-row l =
    l.out ++ flat_map (row_keys l.schema) (map (λ row. row.now) (drop l.row-index l.rows)) ≡ flat_map (row_keys l.schema) (map (λ row. row.now) l.rows)
