use Rattle.std.proofs.Common.{◌≡◌, ◌++◌, List, drop, map}
use Rattle.std.specs.List.{filter}
use Rattle.nc_names.specs.declared.path.Row.{Row}
use Rattle.nc_filter.specs.inner.Front.{is_met}
use Rattle.nc_filter.specs.inner.Tables.{ArePlaces}
use Rattle.nc_filter.proofs.front.met.Given as goal

abbrev pub invariant-loop-row : goal.invariant-loop-row
invariant-loop-row l =
    (likes : List Row) → ArePlaces l.places.items likes →
    map (λ row. row.now) l.found ++ filter (is_met l.schema likes l.depth) (drop l.row-index (map (λ row. row.now) l.rows))
    ≡ filter (is_met l.schema likes l.depth) (map (λ row. row.now) l.rows)
