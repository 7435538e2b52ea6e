use Rattle.std.proofs.Common.{◌≡◌, map, take, Bor}
use Rattle.std.specs.List.{list_any, position_from}
use Rattle.nc_model.specs.declared.policy.Rule.{Rule}
use Rattle.nc_nacm.specs.inner.Found.{under}
use Rattle.nc_nacm.proofs.index.first_by_shapes.Given as goal

abbrev pub invariant-loop-shape : goal.invariant-loop-shape
invariant-loop-shape l =
    l.first ≡ position_from (λ (rule : Rule). list_any (λ shape. under l.name l.steps l.right shape rule) (take l.shape-index l.shape-items)) 0
    (map (λ (rule : Bor Rule). rule.now) l.rules)
