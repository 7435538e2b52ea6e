use Rattle.std.proofs.Common.{◌≡◌, ◌++◌, List, drop}
use Rattle.std.specs.Prelude.{map}
use Rattle.std.specs.List.{filter, list_any}
use Rattle.nc_names.specs.declared.path.Row.{Row}
use Rattle.nc_protocol.specs.Filter.{comes_with}
use Rattle.nc_filter.specs.inner.Tables.{ArePlaces}
use Rattle.nc_filter.proofs.selection.kept.Given as goal

abbrev pub invariant-loop-row : goal.invariant-loop-row
invariant-loop-row l =
    (found : List Row) → ArePlaces l.places.items found →
    l.out ++ filter (λ row. list_any (λ other. comes_with l.schema other row) found) (drop l.row-index (map (λ row. row.now) l.rows))
    ≡ filter (λ row. list_any (λ other. comes_with l.schema other row) found) (map (λ row. row.now) l.rows)
