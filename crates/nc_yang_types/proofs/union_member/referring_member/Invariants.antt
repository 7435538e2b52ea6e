-- The members before do not refer to other data.
use Rattle.std.proofs.Common.{◌≡◌, ◌<◌, ℕ, Some, slice_get}
use Rattle.std.specs.Prelude.{Bool, List}
use Rattle.nc_yang_scopes.specs.Scopes.{Located, child}
use Rattle.nc_yang_types.specs.Faults.{MeansReference}
use Rattle.nc_yang_types.specs.Plans.{AreMeanings}
use Rattle.nc_yang_types.proofs.union_member.referring_member.Given as goal

abbrev pub invariant-loop-place : goal.invariant-loop-place
invariant-loop-place l =
    (on : ℕ → List ℕ → Bool) → AreMeanings on l.scopes l.meanings → (here : Located) → slice_get l.scopes.located l.number ≡ Some here
    → (i : ℕ) (c : Located) → i < l.place → child i here ≡ Some c → MeansReference on l.scopes.texts c → ⊥
