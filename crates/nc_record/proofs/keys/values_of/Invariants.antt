use Rattle.std.proofs.Common.{◌≡◌, map, take}
use Rattle.nc_record.specs.declared.spelled.Spelled.{Spelled}
use Rattle.nc_record.proofs.keys.values_of.Given as goal

abbrev pub invariant-loop-row : goal.invariant-loop-row
invariant-loop-row l = l.values ≡ map (λ (row : Spelled). row.value) (take l.row-index l.rows)
