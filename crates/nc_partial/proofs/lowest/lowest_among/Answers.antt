use Rattle.nc_partial.proofs.SearchLemmas.{among_start, among_step}
use Rattle.nc_partial.proofs.lowest.lowest_among.Goals as goal

pub loop-node-init : goal.loop-node-init
loop-node-init c = among_start c.args.other_than c.args.index.now

pub loop-node-preserved : goal.loop-node-preserved
loop-node-preserved c =
    among_step c.args.other_than c.args.index.now c.args.nodes.now c.loop-node.node-index c.node-item.result c.loop-node.lowest c.lowest_sharing-found.result
    c.lower-lowest.result c.loop-node-test.true c.node-item.is c.lower-lowest.ensures c.loop-node.invariant c.lowest_sharing-found.ensures
