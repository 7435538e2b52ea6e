use Rattle.std.proofs.Common.{arith}
use Rattle.std.proofs.lemmas.Option.{slice_get-get_or}
use Rattle.nc_yang_nodes.specs.inner.Edges.{FromNamed}
use Rattle.nc_yang_nodes.proofs.EdgeLemmas.{adds_all, adds_at}
use Rattle.nc_yang_nodes.proofs.edges.with_bases.Goals as goal

pub loop-base-preserved : goal.loop-base-preserved
loop-base-preserved c = λ ls are.
    adds_at c.args.places.now.located (FromNamed c.args.places.now.texts c.args.to) c.args.bases.now ls c.loop-base.base-index _ c.args.graph c.loop-base.graph c.in_ok-graph.graph are
    (slice_get-get_or c.args.bases.now c.loop-base.base-index _ c.loop-base-test.true) (c.loop-base.invariant ls are) c.in_ok-graph.ensures

pub returns : goal.returns
returns c = λ ls are.
    adds_all c.args.places.now.located (FromNamed c.args.places.now.texts c.args.to) c.args.bases.now ls c.loop-base.base-index c.args.graph c.loop-base.graph are (omega arith) (c.loop-base.invariant ls are)
