use Rattle.std.proofs.Common.{take}
use Rattle.nc_validate.specs.inner.Alone.{AddsValues}
use Rattle.nc_validate.specs.inner.Tuples.{texts}
use Rattle.nc_validate.proofs.alone.with_all.Given as goal

abbrev pub invariant-loop-value : goal.invariant-loop-value
invariant-loop-value l = AddsValues l.fn.seen l.seen (texts (take l.value-index l.values))
