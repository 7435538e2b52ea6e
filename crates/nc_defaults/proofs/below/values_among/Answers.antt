-- The values of one place more.
use Rattle.nc_defaults.proofs.BelowLemmas.{one_more}
use Rattle.nc_defaults.proofs.below.values_among.Goals as goal

pub loop-spot-preserved : goal.loop-spot-preserved
loop-spot-preserved c =
    one_more c.args.children.now c.args.number c.args.config.now c.args.spots.now c.loop-spot.spot-index c.spot-item.result
    c.loop-spot.out c.in_ok-values_at.field-0 c.append.new.self c.loop-spot-test.true c.spot-item.is
    c.in_ok-append.ensures.ok c.in_ok-values_at.ensures c.loop-spot.invariant
