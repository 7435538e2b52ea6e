use Rattle.std.proofs.Common.{◌≡◌, ◌++◌, map, take, Bor}
use Rattle.nc_model.specs.declared.policy.Rule.{Rule}
use Rattle.nc_nacm.proofs.applying.add_rules.Given as goal

abbrev pub invariant-loop-rule : goal.invariant-loop-rule
invariant-loop-rule l =
    map (λ (rule : Bor Rule). rule.now) l.rules ≡ map (λ (rule : Bor Rule). rule.now) l.fn.rules ++ take l.rule-index l.rule-items
