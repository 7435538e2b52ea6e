use Rattle.std.proofs.Common.{map, take, Bor}
use Rattle.std.specs.List.{AllZip}
use Rattle.nc_model.specs.declared.policy.Rule.{Rule}
use Rattle.nc_nacm.specs.inner.Chains.{IsAnchor}
use Rattle.nc_nacm.proofs.anchors.anchors_of.Given as goal

abbrev pub invariant-loop-rule : goal.invariant-loop-rule
invariant-loop-rule l = AllZip IsAnchor l.anchors (take l.rule-index (map (λ (rule : Bor Rule). rule.now) l.rules))
