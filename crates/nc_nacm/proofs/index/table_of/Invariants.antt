use Rattle.std.proofs.Common.{map, take}
use Rattle.std.proofs.Common.{Bor}
use Rattle.nc_model.specs.declared.policy.Rule.{Rule}
use Rattle.nc_nacm.specs.inner.Tables.{HasPlaces, in_table}
use Rattle.nc_nacm.proofs.index.table_of.Given as goal

abbrev pub invariant-loop-at : goal.invariant-loop-at
invariant-loop-at l = HasPlaces (in_table l.table) (take l.at (map (λ (rule : Bor Rule). rule.now) l.rules))
