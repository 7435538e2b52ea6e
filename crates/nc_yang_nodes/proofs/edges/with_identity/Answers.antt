use Rattle.nc_yang_nodes.proofs.EdgeLemmas.{identity_made}
use Rattle.nc_yang_nodes.proofs.edges.with_identity.Goals as goal

pub returns-in_ok-bases-in-Some : goal.returns-in_ok-bases-in-Some
returns-in_ok-bases-in-Some c =
    identity_made c.args.places.now c.args.number c.in-Some.to c.in_ok-bases-in-Some.bases c.as_slice.result.now c.args.graph c.in-Some.ensures c.in_ok-bases-in-Some.ensures c.as_slice.ensures c.with_bases.result c.with_bases.ensures
