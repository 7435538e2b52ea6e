use Rattle.nc_partial.specs.inner.Entries.{above_to, of_others}
use Rattle.nc_partial.specs.inner.Lowest.{IsLowest}
use Rattle.nc_partial.proofs.lowest.lowest_above.Given as goal

abbrev pub invariant-loop-depth : goal.invariant-loop-depth
invariant-loop-depth l = IsLowest (of_others l.other_than (above_to l.depth l.steps)) l.index l.lowest
