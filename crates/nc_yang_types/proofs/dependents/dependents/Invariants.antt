use Rattle.nc_yang_types.specs.inner.Footings.{AreDependents}
use Rattle.nc_yang_types.proofs.dependents.dependents.Given as goal

abbrev pub invariant-loop-number : goal.invariant-loop-number
invariant-loop-number l = AreDependents l.footings l.number l.graph
