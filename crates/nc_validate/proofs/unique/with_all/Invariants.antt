use Rattle.std.specs.Prelude.{map}
use Rattle.nc_validate.specs.inner.Tuples.{AddsTuples, texts}
use Rattle.nc_validate.proofs.unique.with_all.Given as goal

abbrev pub invariant-loop-tuple : goal.invariant-loop-tuple
invariant-loop-tuple l = AddsTuples l.fn.seen l.seen (map texts l.yielded)
