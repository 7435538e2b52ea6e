use Rattle.std.proofs.Common.{◌∙◌}
use Rattle.nc_nacm.proofs.Hiding.{beside_more, beside_none}
use Rattle.nc_nacm.proofs.visible.without_nodes.Goals as goal

pub loop-node-init : goal.loop-node-init
loop-node-init c = c.in_ok-rest.ensures ∙ beside_none c.args.config.now

pub loop-node-preserved : goal.loop-node-preserved
loop-node-preserved c =
    beside_more c.args.nodes.now c.loop-node.node-index c.node-item.result c.in_ok-path.path.steps c.args.config.now c.loop-node.rest c.remove.new.self
    c.loop-node-test.true c.node-item.is c.in_ok-path.ensures c.loop-node.invariant c.in_ok-remove.ensures.rows
