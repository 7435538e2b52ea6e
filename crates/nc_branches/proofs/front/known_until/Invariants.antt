use Rattle.std.proofs.Common.{◌≡◌, ◌++◌, take, drop}
use Rattle.nc_branches.specs.inner.Fronts.{HasEntries, entries_until}
use Rattle.nc_branches.proofs.front.known_until.Given as goal

abbrev pub invariant-loop-entry : goal.invariant-loop-entry
invariant-loop-entry l = record { known : HasEntries l.known (take l.entry-index l.order); until : entries_until l.keys l.order ≡ take l.entry-index l.order ++ entries_until l.keys (drop l.entry-index l.order) }
