use Rattle.std.specs.List.{flat_map, range_with_len}
use Rattle.nc_yang_scopes.specs.Numbers.{AreNumbers}
use Rattle.nc_yang_nodes.specs.Identities.{defined_in}
use Rattle.nc_yang_nodes.proofs.list.identities.Given as goal

abbrev pub invariant-loop-text : goal.invariant-loop-text
invariant-loop-text l = AreNumbers l.scopes.located l.list (flat_map (defined_in l.scopes.texts) (range_with_len 0 l.text))
