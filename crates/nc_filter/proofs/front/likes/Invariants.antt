use Rattle.std.proofs.Common.{◌≡◌, ◌++◌, drop, map}
use Rattle.std.specs.List.{filter}
use Rattle.nc_filter.specs.inner.Front.{is_like}
use Rattle.nc_filter.proofs.front.likes.Given as goal

abbrev pub invariant-loop-row : goal.invariant-loop-row
invariant-loop-row l =
    map (λ row. row.now) l.found ++ filter (is_like l.schema l.elem) (drop l.row-index (map (λ row. row.now) l.rows))
    ≡ filter (is_like l.schema l.elem) (map (λ row. row.now) l.rows)
