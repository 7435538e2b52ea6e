use Rattle.std.proofs.Common.{arith}
use Rattle.nc_yang_nodes.proofs.EdgeLemmas.{edge_made}
use Rattle.nc_yang_nodes.proofs.edges.with_base.Goals as goal

pub returns-in-Some : goal.returns-in-Some
returns-in-Some c = edge_made c.args.places.now c.args.base c.args.to c.in-Some.from c.args.graph c.in-Some.ensures (omega arith) c.with_edge.result c.with_edge.ensures
