use Rattle.std.proofs.Common.{◌≡◌, drop}
use Rattle.std.specs.List.{list_all}
use Rattle.nc_model.specs.Sight.{beginnings, may_read, may_see}
use Rattle.nc_nacm.proofs.plain.may_see.Given as goal

abbrev pub invariant-loop-at : goal.invariant-loop-at
invariant-loop-at l =
    list_all (may_read l.schema l.policy l.peer) (drop l.at (beginnings l.steps)) ≡ may_see l.schema l.policy l.peer l.steps
