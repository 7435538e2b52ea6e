use Rattle.std.proofs.Common.{take}
use Rattle.nc_filter.specs.inner.Names.{AddsNamedOf}
use Rattle.nc_filter.proofs.names.with_numbers.Given as goal

abbrev pub invariant-loop-number : goal.invariant-loop-number
invariant-loop-number l = AddsNamedOf l.schema l.node l.elems (take l.number-index l.numbers) l.fn.out l.out
