use Rattle.std.proofs.Common.{take}
use Rattle.std.specs.Prelude.{map}
use Rattle.nc_filter.specs.inner.Picks.{Adds, is_matched}
use Rattle.nc_filter.proofs.texts.matched.Given as goal

abbrev pub invariant-loop-row : goal.invariant-loop-row
invariant-loop-row l =
    Adds (map (λ row. row.now) l.fn.out) (map (λ row. row.now) l.out) (is_matched (map (λ elem. elem.now) l.elems) l.depth) (map (λ row. row.now) (take l.row-index l.rows))
