use Rattle.std.proofs.Common.{◌≡◌, ◌<◌, ℕ, Some, slice_get}
use Rattle.std.specs.Prelude.{Bool, List}
use Rattle.nc_yang_statements.specs.declared.fault.Fault.{Fault}
use Rattle.nc_yang_scopes.specs.Scopes.{Located, child}
use Rattle.nc_yang_types.specs.Faults.{BreaksType}
use Rattle.nc_yang_types.specs.Plans.{AreMeanings}
use Rattle.nc_yang_types.proofs.check.+check.Given as goal

abbrev pub invariant-loop-place : goal.invariant-loop-place
invariant-loop-place l =
    (on : ℕ → List ℕ → Bool) → AreMeanings on l.scopes l.meanings → (here : Located) → slice_get l.scopes.located l.number ≡ Some here
    → (i : ℕ) (c : Located) (fault : Fault) → i < l.place → child i here ≡ Some c → BreaksType on l.scopes.texts c fault → ⊥
