use Rattle.nc_yang.specs.inner.Marked.{AreDeep}
use Rattle.nc_yang.proofs.depth.deep.Given as goal

abbrev pub invariant-loop : goal.invariant-loop
invariant-loop l = AreDeep l.schema l.counter l.marks
