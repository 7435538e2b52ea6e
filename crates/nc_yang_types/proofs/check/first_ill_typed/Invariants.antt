use Rattle.std.proofs.Common.{◌<◌, ℕ}
use Rattle.std.specs.Prelude.{Bool, List}
use Rattle.nc_yang_statements.specs.declared.fault.Fault.{Fault}
use Rattle.nc_yang_types.specs.Faults.{BreaksTypes}
use Rattle.nc_yang_types.specs.Plans.{AreMeanings}
use Rattle.nc_yang_types.proofs.check.first_ill_typed.Given as goal

abbrev pub invariant-loop-text : goal.invariant-loop-text
invariant-loop-text l =
    (on : ℕ → List ℕ → Bool) → AreMeanings on l.scopes l.meanings → (before : ℕ) (fault : Fault) → before < l.text → BreaksTypes on l.scopes.texts before fault → ⊥
