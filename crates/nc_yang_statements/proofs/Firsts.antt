-- The first of two lists together.
use Rattle.std.proofs.Common.{◌≡◌, List, [], ◌∷◌, ◌++◌, refl, arith}
use Rattle.std.specs.Prelude.{Some, None, Contains}
use Rattle.nc_yang_statements.specs.Rules.{first}

pub first_some : {A : Type 0} (xs ys : List A) (x : A) → first xs ≡ Some x → first (xs ++ ys) ≡ Some x
first_some [] ys x e = absurd (cc)
first_some (y ∷ xs) ys x e = e

pub first_none : {A : Type 0} (xs ys : List A) → first xs ≡ None → first (xs ++ ys) ≡ first ys
first_none [] ys e = refl
first_none (y ∷ xs) ys e = absurd (cc)

pub first_contains : {A : Type 0} (xs : List A) (x : A) → first xs ≡ Some x → Contains xs x
first_contains [] x e = absurd (cc)
first_contains (y ∷ xs) x e = let same : y ≡ x = cc in (0, omega arith, same)

pub first_lacks : {A : Type 0} (xs : List A) (x : A) → first xs ≡ None → Contains xs x → ⊥
first_lacks [] x e h = omega (arith, h.1)
first_lacks (y ∷ xs) x e h = absurd (cc)
