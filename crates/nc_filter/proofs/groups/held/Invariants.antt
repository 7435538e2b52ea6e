use Rattle.std.proofs.Common.{take}
use Rattle.nc_filter.specs.inner.Runs.{AreOf, is_held}
use Rattle.nc_filter.proofs.groups.held.Given as goal

abbrev pub invariant-loop-number : goal.invariant-loop-number
invariant-loop-number l = AreOf (is_held l.keys l.runs l.from) (take l.number-index l.some) l.out
