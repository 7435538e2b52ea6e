use Rattle.std.proofs.Common.{take}
use Rattle.nc_changes.specs.inner.Entries.{HasEntries}
use Rattle.nc_changes.specs.inner.Ranks.{keys_of}
use Rattle.nc_changes.proofs.ranks.known.Given as goal

abbrev pub invariant-loop-entry : goal.invariant-loop-entry
invariant-loop-entry l = HasEntries l.known (keys_of (take l.entry-index l.order))
