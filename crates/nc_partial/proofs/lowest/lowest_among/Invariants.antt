use Rattle.std.proofs.Common.{take}
use Rattle.nc_partial.specs.inner.Entries.{of_others, shares_some}
use Rattle.nc_partial.specs.inner.Lowest.{IsLowest}
use Rattle.nc_partial.proofs.lowest.lowest_among.Given as goal

abbrev pub invariant-loop-node : goal.invariant-loop-node
invariant-loop-node l = IsLowest (of_others l.other_than (shares_some (take l.node-index l.nodes))) l.index l.lowest
