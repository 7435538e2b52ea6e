use Rattle.std.proofs.Common.{◌≡◌, ◌<◌, ℕ, Some, slice_get}
use Rattle.nc_yang_statements.specs.declared.fault.Fault.{Fault}
use Rattle.nc_yang_scopes.specs.Scopes.{Located, child}
use Rattle.nc_yang_scopes.specs.Names.{Misnames}
use Rattle.nc_yang_scopes.proofs.naming.+check.Given as goal

abbrev pub invariant-loop-place : goal.invariant-loop-place
invariant-loop-place l =
    (here : Located) → slice_get l.scopes.located l.number ≡ Some here
    → (i : ℕ) (c : Located) (fault : Fault) → i < l.place → child i here ≡ Some c → Misnames l.scopes.texts c fault → ⊥
