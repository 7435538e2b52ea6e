use Rattle.std.proofs.Common.{[], length, refl, ap, sym, subst, ◌∙◌}
use Rattle.nc_yang_order.specs.Orders.{EachAfter}
use Rattle.nc_yang_types.specs.inner.Footings.{AreFootings}
use Rattle.nc_yang_types.specs.inner.Planning.{IsReady, blank}
use Rattle.nc_yang_types.proofs.TableLemmas.{reached_ready, table_all}
use Rattle.nc_yang_types.proofs.table.table.Goals as goal

pub along-requires : goal.along-requires
along-requires g c = λ _.
    let r = c.in_ok-reach.ensures in
    let order = subst (EachAfter (IsReady c.as_slice-list.result.now) []) (sym c.as_slice-order.ensures)
    (reached_ready c.as_slice-list.result.now r.graph r.starts r.dependents r.are_starts c.in_ok-reach.reach.found r.reached.led) in
    let scoping = c.args.scopes.now in
    let footed = subst (AreFootings scoping (length scoping.located)) (sym c.as_slice-list.ensures) c.in_ok-footings.ensures in
    ((refl, tt), (c.in_ok-meanings.ensures ∙ ap blank footed.counted, (footed, order)))

pub returns : goal.returns
returns g c =
    table_all (g.F.Features.on c.args.features.now) c.args.scopes.now c.in_ok-footings.footings c.in_ok-footings.ensures c.as_slice-list.result.now c.as_slice-list.ensures
    c.in_ok-reach.reach c.in_ok-reach.ensures c.as_slice-order.result.now c.as_slice-order.ensures c.along.result c.along.ensures
