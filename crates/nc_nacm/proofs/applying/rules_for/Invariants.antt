use Rattle.std.proofs.Common.{◌≡◌, map, take, Bor}
use Rattle.std.specs.List.{flat_map}
use Rattle.nc_model.specs.Decision.{rules_in}
use Rattle.nc_model.specs.declared.policy.Rule.{Rule}
use Rattle.nc_nacm.proofs.applying.rules_for.Given as goal

abbrev pub invariant-loop-list : goal.invariant-loop-list
invariant-loop-list l =
    map (λ (rule : Bor Rule). rule.now) l.rules ≡ flat_map (rules_in l.policy l.peer) (take l.list-index l.list-items)
