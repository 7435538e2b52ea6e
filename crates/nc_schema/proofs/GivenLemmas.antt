-- Keys beside values, from a place on.
use Rattle.std.proofs.Common.{◌≡◌, ◌<◌, ◌≤◌, ◌+◌, ℕ, zero, suc, List, [], ◌∷◌, ◌++◌, Some, None, length, drop, get_or, slice_get, refl, sym, ap, ◌∙◌, append-nil, append_assoc, arith}
use Rattle.std.specs.List.{flat_map, zip}

pub nothing_left : {X : Type 0} (xs : List X) (i : ℕ) → length xs ≤ i → drop i xs ≡ []
nothing_left [] zero past = refl
nothing_left [] (suc i) past = refl
nothing_left (x ∷ xs) zero past = absurd (omega (arith, past))
nothing_left (x ∷ xs) (suc i) past = nothing_left xs i (omega (arith, past))

pub none_left : {X : Type 0} (xs : List X) (i : ℕ) → slice_get xs i ≡ None → drop i xs ≡ []
none_left [] zero e = refl
none_left [] (suc i) e = refl
none_left (x ∷ xs) zero e = cc
none_left (x ∷ xs) (suc i) e = none_left xs i e

pub one_there : {X : Type 0} (xs : List X) (i : ℕ) (x : X) → slice_get xs i ≡ Some x → drop i xs ≡ x ∷ drop (i + 1) xs
one_there [] i x e = cc
one_there (y ∷ xs) zero x e = let same : y ≡ x = cc in ap (λ z. z ∷ xs) same
one_there (y ∷ xs) (suc i) x e =
    let next : suc i + 1 ≡ suc (i + 1) = omega arith in
    rw next (one_there xs i x e)

pub item_there : {X : Type 0} (xs : List X) (i : ℕ) (x : X) → i < length xs → x ≡ get_or xs i x → drop i xs ≡ x ∷ drop (i + 1) xs
item_there [] i x less e = absurd (omega (arith, less))
item_there (y ∷ xs) zero x less e = ap (λ z. z ∷ xs) (sym e)
item_there (y ∷ xs) (suc i) x less e =
    let next : suc i + 1 ≡ suc (i + 1) = omega arith in
    rw next (item_there xs i x (omega (arith, less)) e)

zip_nothing : {X Y : Type 0} (xs : List X) → zip {X = Y} xs [] ≡ []
zip_nothing [] = refl
zip_nothing (x ∷ xs) = refl

pub given_next : {X : Type 0} (f : ℕ × X → List ℕ) (keys : List ℕ) (values : List X) (i : ℕ) (key : ℕ) (value : X) (out more whole : List ℕ) → out ++ flat_map f (zip (drop i keys) (drop i values)) ≡ whole → slice_get keys i ≡ Some key → i < length values → value ≡ get_or values i value → more ≡ out ++ f (key, value) → more ++ flat_map f (zip (drop (i + 1) keys) (drop (i + 1) values)) ≡ whole
given_next f keys values i key value out more whole e at less here is =
    let rest = flat_map f (zip (drop (i + 1) keys) (drop (i + 1) values)) in
    let split : zip (drop i keys) (drop i values) ≡ (key, value) ∷ zip (drop (i + 1) keys) (drop (i + 1) values) =
    (λ k. zip (one_there keys i key at k) (item_there values i value less here k)) in
    ap (λ x. x ++ rest) is ∙ append_assoc out (f (key, value)) rest ∙ ap (λ ps. out ++ flat_map f ps) (sym split) ∙ e

pub given_short : {X : Type 0} (f : ℕ × X → List ℕ) (keys : List ℕ) (values : List X) (i : ℕ) (out whole : List ℕ) → out ++ flat_map f (zip (drop i keys) (drop i values)) ≡ whole → slice_get keys i ≡ None → out ≡ whole
given_short f keys values i out whole e none =
    sym (append-nil out) ∙ ap (λ ks. out ++ flat_map f (zip ks (drop i values))) (sym (none_left keys i none)) ∙ e

pub given_all : {X : Type 0} (f : ℕ × X → List ℕ) (keys : List ℕ) (values : List X) (i : ℕ) (out whole : List ℕ) → out ++ flat_map f (zip (drop i keys) (drop i values)) ≡ whole → length values ≤ i → out ≡ whole
given_all f keys values i out whole e past =
    sym (append-nil out) ∙ ap (λ ps. out ++ flat_map f ps) (sym (zip_nothing (drop i keys)))
    ∙ ap (λ vs. out ++ flat_map f (zip (drop i keys) vs)) (sym (nothing_left values i past)) ∙ e
