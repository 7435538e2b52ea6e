-- What is in a list.
use Rattle.std.proofs.Common.{◌≡◌, ◌⊎◌, inl, inr, ⊎_elim, ◌+◌, List, [], ◌∷◌, Contains, refl, add-one, arith}
use Rattle.std.proofs.lemmas.List.Elements.{Contains-append_cases, Contains-push_cases}

pub here : {X : Type 0} (x : X) (xs : List X) → Contains (x ∷ xs) x
here x xs = (0, omega arith, refl)

pub there : {X : Type 0} (y : X) (xs : List X) (x : X) → Contains xs x → Contains (y ∷ xs) x
there y xs x (k, within, is) = (k + 1, omega arith, rw add-one is)

pub in_none : {X : Type 0} (x : X) → Contains {X = X} [] x → ⊥
in_none x (k, within, is) = absurd (omega (arith, within))

pub in_one : {X : Type 0} (y x : X) → Contains (y ∷ []) x → y ≡ x
in_one {X} y x has =
    ⊎_elim (λ (none : Contains {X = X} [] x). absurd (in_none x none)) (λ (e : y ≡ x). e) (Contains-push_cases [] y x has)

pub in_cons : {X : Type 0} (y : X) (xs : List X) (x : X) → Contains (y ∷ xs) x → (y ≡ x) ⊎ Contains xs x
in_cons y xs x has =
    ⊎_elim (λ (one : Contains (y ∷ []) x). inl (in_one y x one)) (λ (rest : Contains xs x). inr rest)
    (Contains-append_cases (y ∷ []) xs x has)
