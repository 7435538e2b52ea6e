use Rattle.nc_yang_order.specs.inner.Reaching.{IsOnWay}
use Rattle.nc_yang_order.proofs.reach.Reach.of.Given as goal

abbrev pub invariant-loop-at : goal.invariant-loop-at
invariant-loop-at l = IsOnWay l.graph l.starts l.at l.reach
