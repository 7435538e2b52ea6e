use Rattle.std.proofs.Common.{◌≡◌, take}
use Rattle.nc_yang_scopes.specs.References.{graph_of}
use Rattle.nc_yang_scopes.proofs.references.graph.Given as goal

abbrev pub invariant-loop-own : goal.invariant-loop-own
invariant-loop-own l = l.graph ≡ graph_of (take l.own-index l.links)
