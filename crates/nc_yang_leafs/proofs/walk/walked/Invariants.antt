use Rattle.nc_yang_leafs.specs.inner.Walks.{IsOnWay}
use Rattle.nc_yang_leafs.proofs.walk.walked.Given as goal

abbrev pub invariant-loop-at : goal.invariant-loop-at
invariant-loop-at l = IsOnWay l.meanings l.marks l.fn.plan l.at l.walk
