use Rattle.std.proofs.Common.{◌≡◌, ◌++◌, drop}
use Rattle.std.specs.Prelude.{map}
use Rattle.nc_filter.proofs.rows.extended.Given as goal

abbrev pub invariant-loop-row : goal.invariant-loop-row
invariant-loop-row l =
    map (λ row. row.now) l.rows ++ map (λ row. row.now) (drop l.row-index l.more) ≡ map (λ row. row.now) l.fn.rows ++ map (λ row. row.now) l.more
