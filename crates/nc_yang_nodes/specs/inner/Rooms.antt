-- Room for what one statement more gives.
use Rattle.std.specs.Prelude.{◌+◌, ◌&&◌, Bool, true, length, nat_lt}
use Rattle.nc_yang_nodes.specs.declared.context.Context.{Context}
use Rattle.nc_yang_nodes.specs.declared.planned.Plan.{Plan}
use Rattle.nc_yang_nodes.specs.declared.role.Role.{Role}
use Rattle.nc_yang_nodes.specs.declared.role.Role.TheVariants.{Node, Choice}
use Rattle.nc_yang_nodes.specs.Plans.{most_levels, most_nodes}

-- there is room for one data node or choice more
abbrev pub has_place : Plan → Bool
has_place plan = nat_lt (length plan.nodes + length plan.choices) most_nodes

-- there is room for what a statement of that role gives: a data node, which is not too deep, a choice, or neither
abbrev pub fits : Plan → Context → Role → Bool
fits plan c (Node deny) = has_place plan && nat_lt c.level most_levels
fits plan c (Choice deny) = has_place plan
fits plan c other = true
