use Rattle.nc_yang_types.specs.inner.Footings.{AreFootings}
use Rattle.nc_yang_types.proofs.footing.footings.Given as goal

abbrev pub invariant-loop-number : goal.invariant-loop-number
invariant-loop-number l = AreFootings l.scopes l.number l.footings
