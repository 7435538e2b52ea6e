use Rattle.std.proofs.Common.{◌≡◌, false, take}
use Rattle.std.specs.List.{list_any}
use Rattle.nc_partial.proofs.seen.is_any_seen.Given as goal

abbrev pub invariant-loop-row : goal.invariant-loop-row
invariant-loop-row g l = list_any (λ row. g.S.Sees.seen l.sees row.now.path) (take l.row-index l.rows) ≡ false
