use Rattle.std.proofs.Common.{◌≡◌, map, take}
use Rattle.nc_model.specs.Policy.{list_of}
use Rattle.nc_defaults.specs.Within.{places_in}
use Rattle.nc_nacm.proofs.rules.lists_of.Given as goal

abbrev pub invariant-loop-spot : goal.invariant-loop-spot
invariant-loop-spot l = l.lists ≡ map (list_of l.schema) (places_in l.config (take l.spot-index l.spots))
