use Rattle.std.proofs.Common.{◌≡◌, length}
use Rattle.nc_yang_statements.specs.Arguments.{after_ups}
use Rattle.nc_yang_statements.proofs.path.after_ups.Given as goal

abbrev pub invariant-loop-rest : goal.invariant-loop-rest
invariant-loop-rest l = after_ups l.text ≡ after_ups l.rest

abbrev pub decreases-loop-rest : goal.decreases-loop-rest
decreases-loop-rest l = length l.rest
