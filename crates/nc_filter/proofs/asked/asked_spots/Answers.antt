use Rattle.std.proofs.Common.{refl}
use Rattle.nc_filter.specs.inner.Instances.{is_asked}
use Rattle.nc_filter.proofs.InstanceLemmas.{are_asked}
use Rattle.nc_filter.proofs.KeptLemmas.{filter_end, filter_next}
use Rattle.nc_filter.proofs.asked.asked_spots.Goals as goal

pub loop-spot-preserved : goal.loop-spot-preserved
loop-spot-preserved c = (
  filter_next (is_asked c.args.schema.now c.args.depth c.in_ok-names.names) c.args.spots.now c.loop-spot.out c.in_ok-out.out c.loop-spot.spot-index c.spot-item.result
      (is_asked c.args.schema.now c.args.depth c.in_ok-names.names c.spot-item.result) c.loop-spot-test.true c.spot-item.is refl c.in_ok-out.ensures.spots c.loop-spot.invariant.0,
  c.in_ok-out.ensures.within c.loop-spot.invariant.1,
)

pub returns-clause-spots : goal.returns-clause-spots
returns-clause-spots c =
    are_asked c.args.schema.now c.args.depth c.args.wants.now c.in_ok-names.names c.in_ok-names.ensures c.args.spots.now c.loop-spot.out
    (filter_end (is_asked c.args.schema.now c.args.depth c.in_ok-names.names) c.args.spots.now c.loop-spot.out c.loop-spot.spot-index c.loop-spot-test.false c.loop-spot.invariant.0)
