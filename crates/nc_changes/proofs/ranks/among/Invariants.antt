use Rattle.std.proofs.Common.{◌≡◌, ◌++◌, drop}
use Rattle.nc_protocol.specs.Changes.{entries_among}
use Rattle.nc_changes.specs.inner.Ranks.{keys_of}
use Rattle.nc_changes.proofs.ranks.among.Given as goal

abbrev pub invariant-loop-entry : goal.invariant-loop-entry
invariant-loop-entry l =
    keys_of l.found ++ entries_among (keys_of l.others) (keys_of (drop l.entry-index l.order)) ≡ entries_among (keys_of l.others) (keys_of l.order)
