use Rattle.std.proofs.Common.{arith, length}
use Rattle.std.specs.Prelude.{replicate, []}
use Rattle.std.proofs.lemmas.Option.{slice_get-get_or}
use Rattle.nc_yang_nodes.specs.Identities.{identities}
use Rattle.nc_yang_nodes.specs.inner.Edges.{ToIdentity}
use Rattle.nc_yang_nodes.proofs.EdgeLemmas.{adds_all, adds_at, is_graph}
use Rattle.nc_yang_nodes.proofs.NumberLemmas.{numbers_length}
use Rattle.nc_yang_nodes.proofs.edges.edges.Goals as goal

pub loop-number-preserved : goal.loop-number-preserved
loop-number-preserved c =
    adds_at c.args.places.now.located (ToIdentity c.args.places.now.texts) c.list-list.result.now (identities c.args.places.now.texts) c.loop-number.number-index _ (replicate (length c.list-list.result.now) []) c.loop-number.graph
    c.in_ok-graph-2.graph c.list-list.ensures (slice_get-get_or c.list-list.result.now c.loop-number.number-index _ c.loop-number-test.true) c.loop-number.invariant c.in_ok-graph-2.ensures

pub returns : goal.returns
returns c =
    is_graph c.args.places.now.texts (length c.list-list.result.now) c.loop-number.graph (numbers_length c.args.places.now.located c.list-list.result.now (identities c.args.places.now.texts) c.list-list.ensures)
    (adds_all c.args.places.now.located (ToIdentity c.args.places.now.texts) c.list-list.result.now (identities c.args.places.now.texts) c.loop-number.number-index (replicate (length c.list-list.result.now) []) c.loop-number.graph
    c.list-list.ensures (omega arith) c.loop-number.invariant)
