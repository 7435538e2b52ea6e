use Rattle.std.proofs.Common.{◌≡◌, drop, map}
use Rattle.nc_edit.specs.inner.Single.{rises, rises_from}
use Rattle.nc_edit.proofs.single.are_rising.Given as goal

abbrev pub invariant-loop-row : goal.invariant-loop-row
invariant-loop-row l = rises_from l.depth l.last (map (λ row. row.now) (drop l.row-index l.more)) ≡ rises l.depth (map (λ row. row.now) l.rows)
