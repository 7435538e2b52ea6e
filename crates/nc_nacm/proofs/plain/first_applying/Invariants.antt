use Rattle.std.proofs.Common.{◌≡◌, drop}
use Rattle.std.specs.List.{find, flat_map}
use Rattle.nc_model.specs.Decision.{rules_in}
use Rattle.nc_nacm.proofs.plain.first_applying.Given as goal

abbrev pub invariant-loop-list : goal.invariant-loop-list
invariant-loop-list g l =
    find (g.A.Asked.matches l.asked) (flat_map (rules_in l.policy l.peer) (drop l.list-index l.list-items))
    ≡ find (g.A.Asked.matches l.asked) (flat_map (rules_in l.policy l.peer) l.policy.lists)
