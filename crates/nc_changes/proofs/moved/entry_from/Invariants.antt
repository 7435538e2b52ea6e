use Rattle.std.proofs.Common.{◌≡◌, drop}
use Rattle.std.specs.Prelude.{None}
use Rattle.std.specs.Option.{option_copied}
use Rattle.nc_changes.specs.inner.Entries.{entry_from}
use Rattle.nc_changes.proofs.moved.entry_from.Given as goal

abbrev pub invariant-loop-entry : goal.invariant-loop-entry
invariant-loop-entry l = entry_from l.keys (option_copied l.above) (drop l.entry-index l.order) ≡ entry_from l.keys None l.order
