use Rattle.std.proofs.Common.{◌≡◌, map, take}
use Rattle.nc_edit.proofs.asked.refs.Given as goal

abbrev pub invariant-loop-row : goal.invariant-loop-row
invariant-loop-row l = map (λ row. row.now) l.all ≡ take l.row-index l.row-items
