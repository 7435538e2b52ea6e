use Rattle.std.proofs.Common.{◌≡◌, ◌<◌, ℕ, Some, slice_get}
use Rattle.nc_yang_words.specs.declared.statement.Statement.{Statement}
use Rattle.nc_yang_scopes.specs.States.{KeepsState}
use Rattle.nc_yang_scopes.proofs.state.+check.Given as goal

abbrev pub invariant-loop-below : goal.invariant-loop-below
invariant-loop-below l = (i : ℕ) (c : Statement) → i < l.below-index → slice_get l.among i ≡ Some c → KeepsState l.within c
