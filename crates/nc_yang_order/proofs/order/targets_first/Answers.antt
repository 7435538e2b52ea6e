use Rattle.nc_yang_order.proofs.Searching.{is_order}
use Rattle.nc_yang_order.proofs.order.targets_first.Goals as goal

pub returns : goal.returns
returns c =
    is_order c.args.graph.now c.loop-number.search c.loop-number.number c.loop-number.invariant.0 c.loop-number.invariant.1 c.loop-number.invariant.2
    c.loop-number-test.false
