-- What is in a list.
use Rattle.std.proofs.Common.{◌≡◌, ◌⊎◌, inl, inr, suc, List, [], ◌∷◌, refl, arith}
use Rattle.std.specs.List.{Contains}
use Rattle.nc_schema.proofs.TreeLemmas.{contains_cases}

pub here : {X : Type 0} (x : X) (xs : List X) → Contains (x ∷ xs) x
here x xs = (0, omega arith, refl)

pub there : {X : Type 0} (y : X) (xs : List X) (x : X) → Contains xs x → Contains (y ∷ xs) x
there y xs x (k, within, is) = (suc k, omega (arith, within), is)

pub in_one : {X : Type 0} (y x : X) → Contains (y ∷ []) x → y ≡ x
in_one {X} y x has = by (contains_cases y [] x has)
  where
    by : (y ≡ x) ⊎ Contains {X = X} [] x → y ≡ x
    by (inl same) = same
    by (inr (k, within, is)) = absurd (omega (arith, within))
