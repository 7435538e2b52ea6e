-- A name is that of one value.
use Rattle.std.proofs.Common.{◌≡◌, ◌≢◌, ℕ, List, [], ◌∷◌, refl, sym, ap, subst, ◌∙◌}
use base.Stored.{Coded, Gv, gnil, gnum, gcons}
use Rattle.nc_machine.specs.Lasting.{name_of, numbers}

first_same : (a b : ℕ) (xs ys : List ℕ) → a ∷ xs ≡ b ∷ ys → a ≡ b
first_same a b xs ys e = cc

rest_same : (a b : ℕ) (xs ys : List ℕ) → a ∷ xs ≡ b ∷ ys → xs ≡ ys
rest_same a b xs ys e = cc

-- the numbers of two codes that stand before others are those of one
numbers_once : (x y : Gv) (r s : List ℕ) → numbers x r ≡ numbers y s → (x ≡ y) × (r ≡ s)
numbers_once gnil gnil r s e = (refl, rest_same 0 0 r s e)
numbers_once gnil (gnum n) r s e = absurd (cc e)
numbers_once gnil (gcons c d) r s e = absurd (cc e)
numbers_once (gnum m) gnil r s e = absurd (cc e)
numbers_once (gnum m) (gnum n) r s e =
    let after = rest_same 1 1 (m ∷ r) (n ∷ s) e in (ap gnum (first_same m n r s after), rest_same m n r s after)
numbers_once (gnum m) (gcons c d) r s e = absurd (cc e)
numbers_once (gcons a b) gnil r s e = absurd (cc e)
numbers_once (gcons a b) (gnum n) r s e = absurd (cc e)
numbers_once (gcons a b) (gcons c d) r s e =
    let left = numbers_once a c (numbers b r) (numbers d s) (rest_same 2 2 (numbers a (numbers b r)) (numbers c (numbers d s)) e) in
    let right = numbers_once b d r s left.1 in
    (λ i. gcons (left.0 i) (right.0 i), right.1)

pub named_once : {X : Type 0} (coded : Coded X) (x y : X) → name_of coded x ≡ name_of coded y → x ≡ y
unfolding name_of
named_once coded x y e = coded.inj x y (numbers_once (coded.code x) (coded.code y) [] [] e).0

some_number : (x : Gv) (r : List ℕ) → numbers x r ≢ []
some_number gnil r e = cc e
some_number (gnum n) r e = cc e
some_number (gcons a b) r e = cc e

pub name_is_some : {X : Type 0} (coded : Coded X) (x : X) → name_of coded x ≢ []
unfolding name_of
name_is_some coded x e = some_number (coded.code x) [] e
