use Rattle.std.proofs.Common.{◌≡◌, drop, map, Bor}
use Rattle.std.specs.List.{position_from}
use Rattle.nc_model.specs.declared.policy.Rule.{Rule}
use Rattle.nc_nacm.specs.inner.Found.{matches_under}
use Rattle.nc_nacm.proofs.finder.first_of_all.Given as goal

abbrev pub invariant-loop-at : goal.invariant-loop-at
invariant-loop-at l =
    position_from (matches_under l.name l.steps l.right) l.at (drop l.at (map (λ (rule : Bor Rule). rule.now) l.rules))
    ≡ position_from (matches_under l.name l.steps l.right) 0 (map (λ (rule : Bor Rule). rule.now) l.rules)
