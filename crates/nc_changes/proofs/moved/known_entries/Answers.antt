use Rattle.std.proofs.Common.{arith}
use Rattle.nc_changes.proofs.KnownLemmas.{one_known}
use Rattle.nc_changes.proofs.moved.known_entries.Goals as goal

pub loop-entry-preserved : goal.loop-entry-preserved
loop-entry-preserved c =
    one_known c.loop-entry.known c.insert.new.self c.args.order.now c.loop-entry.entry-index c.entry-item.result (omega arith) c.entry-item.is
    c.loop-entry.invariant c.in_ok-insert.ensures.updates.0
