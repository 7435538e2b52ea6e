use Rattle.std.proofs.Common.{take}
use Rattle.nc_changes.specs.inner.Entries.{HasEntries}
use Rattle.nc_changes.proofs.moved.known_entries.Given as goal

abbrev pub invariant-loop-entry : goal.invariant-loop-entry
invariant-loop-entry l = HasEntries l.known (take l.entry-index l.order)
