use Rattle.std.proofs.Common.{◌≡◌, ◌++◌, take}
use Rattle.nc_validate.specs.inner.Tuples.{texts}
use Rattle.nc_validate.proofs.apart.with_texts.Given as goal

abbrev pub invariant-loop-value : goal.invariant-loop-value
invariant-loop-value l = texts l.out ≡ texts l.fn.out ++ texts (take l.value-index l.values)
