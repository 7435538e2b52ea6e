use Rattle.std.proofs.Common.{take}
use Rattle.nc_filter.specs.inner.Labels.{IsUnion}
use Rattle.nc_filter.proofs.wants.union_of.Given as goal

abbrev pub invariant-loop-number : goal.invariant-loop-number
invariant-loop-number l = IsUnion l.words l.wants (take l.number-index l.some)
