use Rattle.std.proofs.Common.{◌≡◌, ◌++◌, drop}
use Rattle.nc_protocol.specs.Changes.{entries_among}
use Rattle.nc_changes.proofs.moved.entries_among.Given as goal

abbrev pub invariant-loop-entry : goal.invariant-loop-entry
invariant-loop-entry l = l.among ++ entries_among l.others (drop l.entry-index l.entry-items) ≡ entries_among l.others l.order
