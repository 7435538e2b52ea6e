use Rattle.std.proofs.Common.{[], length, take}
use Rattle.std.specs.Prelude.{replicate}
use Rattle.nc_yang_nodes.specs.Identities.{identities}
use Rattle.nc_yang_nodes.specs.inner.Edges.{Adds, AnyOf, ToIdentity}
use Rattle.nc_yang_nodes.proofs.edges.edges.Given as goal

abbrev pub invariant-loop-number : goal.invariant-loop-number
invariant-loop-number l =
    Adds (AnyOf (take l.number-index (identities l.places.texts)) (ToIdentity l.places.texts)) (replicate (length l.list) []) l.graph
