use Rattle.std.proofs.Common.{[], sym, subst}
use Rattle.nc_yang_order.specs.Orders.{EachAfter}
use Rattle.nc_yang_types.specs.inner.Planning.{IsReady}
use Rattle.nc_yang_types.proofs.TableLemmas.{reached_ready}
use Rattle.nc_yang_types.proofs.DefaultLemmas.{defaults_all}
use Rattle.nc_yang_types.proofs.defaults.defaults_of.Goals as goal

pub along-requires-clause-order : goal.along-requires-clause-order
along-requires-clause-order c =
    let r = c.in_ok-reach.ensures in
    subst (EachAfter (IsReady c.as_slice-list.result.now) []) (sym c.as_slice-order.ensures)
    (reached_ready c.as_slice-list.result.now r.graph r.starts r.dependents r.are_starts c.in_ok-reach.reach.found r.reached.led)

pub returns : goal.returns
returns c =
    defaults_all c.args.scopes.now c.in_ok-footings.footings c.in_ok-footings.ensures c.as_slice-list.result.now c.as_slice-list.ensures
    c.in_ok-reach.reach c.in_ok-reach.ensures c.as_slice-order.result.now c.as_slice-order.ensures c.along.result c.along.ensures
