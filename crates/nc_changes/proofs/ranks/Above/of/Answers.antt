use Rattle.nc_changes.proofs.RankLemmas.{above_more}
use Rattle.nc_changes.proofs.ranks.Above.of.Goals as goal

pub loop-entry-preserved : goal.loop-entry-preserved
loop-entry-preserved c =
    above_more c.args.order.now c.loop-entry.entry-index c.entry-item.result c.loop-entry.above c.in_ok-above.above c.loop-entry-test.true c.entry-item.is
    c.loop-entry.invariant c.in_ok-above.ensures
