use Rattle.std.proofs.Common.{take}
use Rattle.nc_changes.specs.inner.Ranks.{HasAbove, keys_of}
use Rattle.nc_changes.proofs.ranks.Above.of.Given as goal

abbrev pub invariant-loop-entry : goal.invariant-loop-entry
invariant-loop-entry l = HasAbove l.above (keys_of (take l.entry-index l.order))
