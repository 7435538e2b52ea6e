use Rattle.nc_yang_types.specs.inner.Footings.{AreStarts}
use Rattle.nc_yang_types.proofs.dependents.starts.Given as goal

abbrev pub invariant-loop-number : goal.invariant-loop-number
invariant-loop-number l = AreStarts l.footings l.number l.starts
