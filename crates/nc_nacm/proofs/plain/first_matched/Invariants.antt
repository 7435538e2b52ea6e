use Rattle.std.proofs.Common.{◌≡◌, drop, map, Bor}
use Rattle.std.specs.List.{find}
use Rattle.nc_model.specs.declared.policy.Rule.{Rule}
use Rattle.nc_nacm.proofs.plain.first_matched.Given as goal

abbrev pub invariant-loop-rule : goal.invariant-loop-rule
invariant-loop-rule g l =
    find (g.A.Asked.matches l.asked) (drop l.rule-index (map (λ (rule : Bor Rule). rule.now) l.rules))
    ≡ find (g.A.Asked.matches l.asked) (map (λ (rule : Bor Rule). rule.now) l.rules)
