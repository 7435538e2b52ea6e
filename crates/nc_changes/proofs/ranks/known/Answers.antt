use Rattle.nc_changes.proofs.RankLemmas.{known_more}
use Rattle.nc_changes.proofs.ranks.known.Goals as goal

pub loop-entry-preserved : goal.loop-entry-preserved
loop-entry-preserved c =
    known_more c.loop-entry.known c.insert.new.self c.args.order.now c.loop-entry.entry-index c.entry-item.result c.loop-entry-test.true c.entry-item.is
    c.loop-entry.invariant c.in_ok-insert.ensures.updates.0
