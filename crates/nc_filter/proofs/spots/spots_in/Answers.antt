use Rattle.std.proofs.Common.{◌+◌, ap}
use Rattle.nc_filter.proofs.SpotLemmas.{spots_done, spots_more}
use Rattle.nc_filter.proofs.spots.spots_in.Goals as goal

pub loop-run-preserved : goal.loop-run-preserved
loop-run-preserved c = (
  ap (λ n. n + 1) c.loop-run.invariant.0,
  spots_more c.args.held.now c.args.whole.now c.loop-run.out c.in_ok-out.out c.loop-run.run-index c.loop-run.number c.run-item.result c.loop-run-test.true c.run-item.is c.loop-run.invariant.0
      c.in_ok-out.ensures c.loop-run.invariant.1,
)

pub returns : goal.returns
returns c = spots_done c.args.held.now c.args.whole.now c.loop-run.out c.loop-run.run-index c.loop-run-test.false c.loop-run.invariant.1
