use Rattle.std.proofs.Common.{◌≡◌, ◌++◌, drop}
use Rattle.std.specs.Prelude.{map}
use Rattle.std.specs.List.{filter}
use Rattle.nc_filter.specs.inner.Picks.{has_node}
use Rattle.nc_filter.proofs.rows.with_node.Given as goal

abbrev pub invariant-loop-row : goal.invariant-loop-row
invariant-loop-row l =
    map (λ row. row.now) l.out ++ filter (has_node l.depth l.node) (map (λ row. row.now) (drop l.row-index l.rows)) ≡ filter (has_node l.depth l.node) (map (λ row. row.now) l.rows)
