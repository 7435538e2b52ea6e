use Rattle.std.proofs.Common.{ap, ◌+◌}
use Rattle.nc_filter.proofs.BelowLemmas.{all_there, inside_more}
use Rattle.nc_filter.proofs.below.Below.of.Goals as goal

pub loop-run-preserved : goal.loop-run-preserved
loop-run-preserved c = (
  ap (λ n. n + 1) c.loop-run.invariant.0,
  inside_more c.args.runs.now c.loop-run.items c.in_ok-items.items c.loop-run.run-index c.loop-run.number c.run-item.result c.loop-run-test.true c.run-item.is c.loop-run.invariant.0
      c.in_ok-items.ensures c.loop-run.invariant.1,
)

pub returns : goal.returns
returns c = all_there c.args.runs.now c.loop-run.items c.loop-run.run-index c.loop-run-test.false c.loop-run.invariant.1
