use Rattle.std.proofs.Common.{◌≡◌, map, take}
use Rattle.nc_model.specs.Policy.{rule_of}
use Rattle.nc_defaults.specs.Within.{places_in}
use Rattle.nc_nacm.proofs.rules.rules_of.Given as goal

abbrev pub invariant-loop-spot : goal.invariant-loop-spot
invariant-loop-spot l = l.rules ≡ map (rule_of l.schema l.list) (places_in l.config (take l.spot-index l.spots))
