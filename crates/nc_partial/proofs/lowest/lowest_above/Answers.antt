use Rattle.std.proofs.Common.{arith, ◌+◌}
use Rattle.nc_partial.proofs.SearchLemmas.{above_end, above_start, above_step}
use Rattle.nc_partial.proofs.lowest.lowest_above.Goals as goal

pub loop-depth-init : goal.loop-depth-init
loop-depth-init c = above_start c.args.other_than c.args.steps.now c.args.index.now

pub loop-depth-preserved : goal.loop-depth-preserved
loop-depth-preserved c =
    above_step c.args.other_than c.args.steps.now c.args.index.now c.loop-depth.depth c.loop-depth.lowest c.lowest_at-found.result c.lower-lowest.result
    c.loop-depth-test.true c.lower-lowest.ensures c.loop-depth.invariant c.lowest_at-found.ensures

pub returns-2 : goal.returns-2
returns-2 c =
    above_end c.args.other_than c.args.steps.now c.args.index.now (c.loop-depth.depth + 1) c.lower-lowest.result (omega arith)
    (above_step c.args.other_than c.args.steps.now c.args.index.now c.loop-depth.depth c.loop-depth.lowest c.lowest_at-found.result c.lower-lowest.result
    c.loop-depth-test.true c.lower-lowest.ensures c.loop-depth.invariant c.lowest_at-found.ensures)
