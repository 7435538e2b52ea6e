use Rattle.std.proofs.Common.{take}
use Rattle.std.specs.Prelude.{map}
use Rattle.nc_filter.specs.inner.Tables.{ArePlaces}
use Rattle.nc_filter.proofs.places.Places.new.Given as goal

abbrev pub invariant-loop-row : goal.invariant-loop-row
invariant-loop-row l = ArePlaces l.items (map (λ row. row.now) (take l.row-index l.rows))
