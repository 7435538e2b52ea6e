use Rattle.std.proofs.Common.{take}
use Rattle.nc_partial.specs.inner.Entries.{is_at, of_others}
use Rattle.nc_partial.specs.inner.Lowest.{IsLowest}
use Rattle.nc_partial.proofs.lowest.lowest_in_front.Given as goal

abbrev pub invariant-loop-entry : goal.invariant-loop-entry
invariant-loop-entry l = IsLowest (of_others l.other_than (is_at l.below l.steps)) (take l.entry-index l.entries) l.lowest
