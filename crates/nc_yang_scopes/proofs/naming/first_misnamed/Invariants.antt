use Rattle.std.proofs.Common.{◌<◌, ℕ}
use Rattle.nc_yang_statements.specs.declared.fault.Fault.{Fault}
use Rattle.nc_yang_scopes.specs.Names.{BreaksNames}
use Rattle.nc_yang_scopes.proofs.naming.first_misnamed.Given as goal

abbrev pub invariant-loop-text : goal.invariant-loop-text
invariant-loop-text l = (before : ℕ) (fault : Fault) → before < l.text → BreaksNames l.scopes.texts before fault → ⊥
