use Rattle.std.proofs.Common.{◌≡◌, take}
use Rattle.nc_validate.specs.inner.Tuples.{texts}
use Rattle.nc_validate.proofs.tuples.longer.Given as goal

abbrev pub invariant-loop-one : goal.invariant-loop-one
invariant-loop-one l = texts l.out ≡ texts (take l.one-index l.tuple)
