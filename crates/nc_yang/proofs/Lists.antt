-- What stands in lists.
use Rattle.std.proofs.Common.{inl, inr, ◌≡◌, ◌⊎◌, ◌++◌, ℕ, zero, suc, Bool, true, false, cond, List, [], ◌∷◌, length, refl, sym, ap, subst, ◌∙◌}
use Rattle.std.specs.Prelude.{Option, Some, None, slice_get, option_map, filter, find, Contains}
use Rattle.std.specs.List.{flat_map}
use Rattle.std.proofs.lemmas.List.Elements.{Contains-append_cases, Contains-append_left, Contains-append_right, filter_passes}
use Rattle.nc_yang_order.proofs.Lists.{contains_none}
use Rattle.nc_yang_scopes.proofs.LinkLists.{contains_cases, contains_first, contains_later}

-- what is found stands there and passes
pub find_there : {A : Type 0} (test : A → Bool) (xs : List A) (x : A) → find test xs ≡ Some x → (i : ℕ) × (slice_get xs i ≡ Some x) × (test x ≡ true)
find_there test [] x e = absurd (cc)
find_there {A} test (y ∷ xs) x e = by (test y) refl e (find_there test xs x)
  where
    by : (b : Bool) → test y ≡ b → cond b (Some y) (find test xs) ≡ Some x → (find test xs ≡ Some x → (i : ℕ) × (slice_get xs i ≡ Some x) × (test x ≡ true)) →
        (i : ℕ) × (slice_get (y ∷ xs) i ≡ Some x) × (test x ≡ true)
    by true passes f further = let same : y ≡ x = cc in (0, f, subst (λ z. test z ≡ true) same passes)
    by false fails f further = let m = further f in (suc m.0, m.1, m.2)

-- what an element gives
pub flat_contains : {A B : Type 0} (f : A → List B) (xs : List A) (x : A) (y : B) (i : ℕ) → slice_get xs i ≡ Some x → Contains (f x) y → Contains (flat_map f xs) y
flat_contains f [] x y i e h = absurd (cc)
flat_contains f (z ∷ xs) x y zero e h = let same : z ≡ x = cc in Contains-append_left (f z) (flat_map f xs) y (subst (λ w. Contains (f w) y) (sym same) h)
flat_contains f (z ∷ xs) x y (suc i) e h = Contains-append_right (f z) (flat_map f xs) y (flat_contains f xs x y i e h)

-- and which element gave it
pub flat_origin : {A B : Type 0} (f : A → List B) (xs : List A) (y : B) → Contains (flat_map f xs) y → (x : A) × (Contains (f x) y)
flat_origin f [] y h = absurd (contains_none y h)
flat_origin f (x ∷ xs) y h = elim (Contains-append_cases (f x) (flat_map f xs) y h) [ inl here ↦ (x, here) | inr later ↦ flat_origin f xs y later ]

-- and where that stands
pub flat_where : {A B : Type 0} (f : A → List B) (xs : List A) (y : B) → Contains (flat_map f xs) y → (i : ℕ) × (x : A) × (slice_get xs i ≡ Some x) × (Contains (f x) y)
flat_where f [] y h = absurd (contains_none y h)
flat_where f (x ∷ xs) y h =
    elim (Contains-append_cases (f x) (flat_map f xs) y h) [
      | inl here ↦ (0, x, refl, here)
      | inr later ↦ let r = flat_where f xs y later in (suc r.0, r.1, r.2, r.3)
    ]

-- what is left by a test passes it
pub contained_passes : {A : Type 0} (test : A → Bool) (xs : List A) (x : A) → Contains (filter test xs) x → test x ≡ true
contained_passes test xs x h = subst (λ z. test z ≡ true) h.2 (filter_passes test xs h.0 x h.1)

-- a list in which nothing stands
pub none_there : {A : Type 0} (xs : List A) → ((x : A) → Contains xs x → ⊥) → xs ≡ []
none_there [] none = refl
none_there (x ∷ xs) none = absurd (none x (contains_first x xs))

-- two lists of which nothing comes
pub empty_left : {A : Type 0} (xs ys : List A) → xs ++ ys ≡ [] → xs ≡ []
empty_left [] ys e = refl
empty_left (x ∷ xs) ys e = absurd (cc)

pub empty_right : {A : Type 0} (xs ys : List A) → xs ++ ys ≡ [] → ys ≡ []
empty_right [] ys e = e
empty_right (x ∷ xs) ys e = absurd (cc)

-- of what an option was made
pub mapped : {A B : Type 0} (f : A → B) (o : Option A) (y : B) → option_map f o ≡ Some y → (x : A) × (o ≡ Some x) × (f x ≡ y)
mapped f None y e = absurd (cc)
mapped f (Some x) y e = (x, refl, cc)

-- the list without one of its elements
abbrev Without : {A : Type 0} → List A → A → Type 0
Without {A} xs x = (ys : List A) × (suc (length ys) ≡ length xs) × ((y : A) → Contains xs y → (y ≡ x → ⊥) → Contains ys y)

pub without : {A : Type 0} (xs : List A) (x : A) → Contains xs x → Without xs x
without [] x h = absurd (contains_none x h)
without {A} (z ∷ xs) x h = by (contains_cases z xs x h) (without xs x)
  where
    by : (z ≡ x) ⊎ Contains xs x → (Contains xs x → Without xs x) → Without (z ∷ xs) x
    by (inl same) further = (xs, refl, (λ y among apart. elim (contains_cases z xs y among) [ inl e ↦ absurd (apart (sym e ∙ same)) | inr later ↦ later ]))
    by (inr later) further =
        let r = further later in (
          z ∷ r.0,
          ap suc r.1,
          (λ y among apart. elim (contains_cases z xs y among) [
            | inl e ↦ subst (λ w. Contains (z ∷ r.0) w) e (contains_first z r.0)
            | inr more ↦ contains_later z r.0 y (r.2 y more apart)
          ]),
        )
