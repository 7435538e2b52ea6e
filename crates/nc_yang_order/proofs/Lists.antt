-- Lists, what stands in them, and what stands before.
use Rattle.std.proofs.Common.{inl, inr, ◌≡◌, ◌≢◌, ◌<◌, ◌≤◌, ◌+◌, ℕ, zero, suc, List, [], ◌∷◌, ◌++◌, refl, sym, ap, ◌∙◌, subst, arith, take, length, append_assoc}
use Rattle.std.specs.Prelude.{Some, None, slice_get, get_or, set, Contains, ◌⊎◌}
use Rattle.std.proofs.lemmas.List.{append-nil, take_more}
use Rattle.std.proofs.lemmas.List.Elements.{Contains-append_cases}
use Rattle.std.proofs.lemmas.Option.{slice_get_within, get_or_from_slice_get}
use Rattle.nc_yang_order.specs.Orders.{EachAfter}

pub contains_one : {A : Type 0} (s u : A) → Contains (s ∷ []) u → s ≡ u
contains_one s u h = let z : h.0 ≡ 0 = omega (arith, h.1) in rw z at h.2

pub contains_none : {A : Type 0} (u : A) → Contains [] u → ⊥
contains_none u h = omega (arith, h.1)

-- an element of a list with one more is that one or one of the others
pub either : {A : Type 0} (xs : List A) (x y : A) → Contains (xs ++ x ∷ []) y → Contains xs y ⊎ (x ≡ y)
either xs x y h = elim (Contains-append_cases xs (x ∷ []) y h) [ inl a ↦ inl a | inr b ↦ inr (contains_one x y b) ]

pub contains_at : {A : Type 0} (xs : List A) (i : ℕ) (x : A) → slice_get xs i ≡ Some x → Contains xs x
contains_at xs i x e = (i, slice_get_within xs i x e, get_or_from_slice_get xs i x x e)

pub get_none : {A : Type 0} (xs : List A) (i : ℕ) → slice_get xs i ≡ None → length xs ≤ i
get_none [] i e = omega arith
get_none (x ∷ xs) zero e = absurd (cc)
get_none (x ∷ xs) (suc i) e = let h = get_none xs i e in omega (arith, h)

pub take_next : {A : Type 0} (xs : List A) (i : ℕ) (x : A) → slice_get xs i ≡ Some x → take (i + 1) xs ≡ take i xs ++ x ∷ []
take_next xs i x e = take_more xs i x (slice_get_within xs i x e) ∙ ap (λ z. take i xs ++ z ∷ []) (get_or_from_slice_get xs i x x e)

pub get_set_same : {A : Type 0} (xs : List A) (i : ℕ) (a b : A) → slice_get xs i ≡ Some a → slice_get (set xs i b) i ≡ Some b
get_set_same [] i a b e = absurd (cc)
get_set_same (x ∷ xs) zero a b e = refl
get_set_same (x ∷ xs) (suc i) a b e = get_set_same xs i a b e

pub get_set_other : {A : Type 0} (xs : List A) (n j : ℕ) (b : A) → j ≢ n → slice_get (set xs n b) j ≡ slice_get xs j
get_set_other [] n j b ne = refl
get_set_other (x ∷ xs) zero zero b ne = absurd (ne refl)
get_set_other (x ∷ xs) zero (suc j) b ne = refl
get_set_other (x ∷ xs) (suc n) zero b ne = refl
get_set_other (x ∷ xs) (suc n) (suc j) b ne = get_set_other xs n j b (λ e. ne (ap suc e))

-- what is true of each element with those before it
pub each_append : {A : Type 0} (P : List A → A → Type 0) (before xs ys : List A) → EachAfter P before xs → EachAfter P (before ++ xs) ys → EachAfter P before (xs ++ ys)
each_append P before [] ys a b = subst (λ z. EachAfter P z ys) (append-nil before) b
each_append P before (x ∷ xs) ys a b =
    (a.0, each_append P (before ++ x ∷ []) xs ys a.1 (subst (λ z. EachAfter P z ys) (sym (append_assoc before (x ∷ []) xs)) b))

pub each_push : {A : Type 0} (P : List A → A → Type 0) (xs : List A) (x : A) → EachAfter P [] xs → P xs x → EachAfter P [] (xs ++ x ∷ [])
each_push P xs x a b = each_append P [] xs (x ∷ []) a (b, tt)

pub each_front : {A : Type 0} (P : List A → A → Type 0) (before xs ys : List A) → EachAfter P before (xs ++ ys) → EachAfter P before xs
each_front P before [] ys e = tt
each_front P before (x ∷ xs) ys e = (e.0, each_front P (before ++ x ∷ []) xs ys e.1)

pub each_last : {A : Type 0} (P : List A → A → Type 0) (before xs : List A) (x : A) → EachAfter P before (xs ++ x ∷ []) → P (before ++ xs) x
each_last P before [] x e = subst (λ z. P z x) (sym (append-nil before)) e.0
each_last P before (y ∷ xs) x e = subst (λ z. P z x) (append_assoc before (y ∷ []) xs) (each_last P (before ++ y ∷ []) xs x e.1)
