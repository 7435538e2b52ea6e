use Rattle.std.proofs.Common.{take}
use Rattle.nc_yang_statements.specs.declared.fault.Fault.{Fault}
use Rattle.nc_yang_statements.specs.Rules.{Faulty}
use Rattle.nc_yang_statements.proofs.check.+check.Given as goal

abbrev pub invariant-loop-below : goal.invariant-loop-below
invariant-loop-below l = (fault : Fault) → Faulty (take l.below-index l.below-items) fault → ⊥
