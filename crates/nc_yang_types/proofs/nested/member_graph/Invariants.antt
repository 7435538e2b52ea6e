use Rattle.std.proofs.Common.{◌≡◌, map, take}
use Rattle.nc_yang_types.specs.inner.Nested.{members_by}
use Rattle.nc_yang_types.proofs.nested.member_graph.Given as goal

abbrev pub invariant-loop-finding : goal.invariant-loop-finding
invariant-loop-finding l = l.graph ≡ map (members_by l.plans) (take l.finding-index l.findings)
