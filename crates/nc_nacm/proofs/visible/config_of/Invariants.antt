use Rattle.std.proofs.Common.{◌≡◌, take, map, Bor}
use Rattle.nc_names.specs.declared.path.Row.{Row}
use Rattle.nc_nacm.proofs.visible.config_of.Given as goal

abbrev pub invariant-loop-row : goal.invariant-loop-row
invariant-loop-row l = l.copied ≡ take l.row-index (map (λ (row : Bor Row). row.now) l.rows)
