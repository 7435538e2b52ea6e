use Rattle.std.proofs.Common.{take}
use Rattle.nc_filter.specs.inner.Runs.{AreOf, at_number, holds_in}
use Rattle.nc_filter.proofs.groups.holding.Given as goal

abbrev pub invariant-loop-number : goal.invariant-loop-number
invariant-loop-number l = AreOf (at_number l.runs (holds_in l.keys)) (take l.number-index l.some) l.out
