use Rattle.std.proofs.Common.{map, take, Bor}
use Rattle.nc_model.specs.declared.policy.Rule.{Rule}
use Rattle.nc_nacm.specs.inner.Tables.{HasShapes}
use Rattle.nc_nacm.proofs.index.all_shapes.Given as goal

abbrev pub invariant-loop-rule : goal.invariant-loop-rule
invariant-loop-rule l = HasShapes l.shapes.keys (take l.rule-index (map (λ (rule : Bor Rule). rule.now) l.rules))
