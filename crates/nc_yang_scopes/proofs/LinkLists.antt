-- Lists, what stands in them, and their elements by numbers.
use Rattle.std.proofs.Common.{inl, inr, ◌≡◌, ◌⊎◌, ℕ, zero, suc, List, [], ◌∷◌, ◌++◌, length, refl, sym, ap, ◌∙◌, subst, cond}
use Rattle.std.specs.Prelude.{Bool, true, false, ◌&&◌, Some, None, Option, slice_get, option_map, map, Contains}
use Rattle.std.specs.List.{filter, list_all}
use Rattle.std.proofs.lemmas.List.{append-nil}
use Rattle.std.proofs.lemmas.List.Elements.{Contains-append_cases, Contains-append_right, filter-append}
use Rattle.std.proofs.lemmas.Option.{slice_get-get_or, slice_get-map}
use Rattle.nc_yang_order.specs.Orders.{EachAfter}
use Rattle.nc_yang_order.proofs.Lists.{contains_at, contains_none, contains_one}

-- an element has a number
pub contains_get : {A : Type 0} (xs : List A) (x : A) → Contains xs x → (i : ℕ) × (slice_get xs i ≡ Some x)
contains_get xs x h = (h.0, slice_get-get_or xs h.0 x h.1 ∙ ap Some h.2)

-- the first element, or one of the others
pub contains_cases : {A : Type 0} (y : A) (xs : List A) (x : A) → Contains (y ∷ xs) x → (y ≡ x) ⊎ Contains xs x
contains_cases y xs x h = elim (Contains-append_cases (y ∷ []) xs x h) [ inl a ↦ inl (contains_one y x a) | inr b ↦ inr b ]

pub contains_first : {A : Type 0} (x : A) (xs : List A) → Contains (x ∷ xs) x
contains_first x xs = contains_at (x ∷ xs) 0 x refl

pub contains_later : {A : Type 0} (y : A) (xs : List A) (x : A) → Contains xs x → Contains (y ∷ xs) x
contains_later y xs x h = Contains-append_right (y ∷ []) xs x h

-- what becomes of elements
pub contains_map : {A B : Type 0} (f : A → B) (xs : List A) (y : B) → Contains (map f xs) y → (x : A) × (Contains xs x × (f x ≡ y))
contains_map {A} {B} f xs y h = by (slice_get xs at) refl
  where
    at : ℕ
    at = (contains_get (map f xs) y h).0

    is : option_map f (slice_get xs at) ≡ Some y
    is = sym (slice_get-map f xs at) ∙ (contains_get (map f xs) y h).1

    by : (o : Option A) → slice_get xs at ≡ o → (x : A) × (Contains xs x × (f x ≡ y))
    by None none = absurd (let e : option_map f (slice_get xs at) ≡ None = ap (option_map f) none in let g = is in cc)
    by (Some x) some = (x, (contains_at xs at x some, let e : option_map f (slice_get xs at) ≡ Some (f x) = ap (option_map f) some in let g = is in cc))

pub map_contains : {A B : Type 0} (f : A → B) (xs : List A) (x : A) → Contains xs x → Contains (map f xs) (f x)
map_contains f xs x h =
    let c = contains_get xs x h in
    contains_at (map f xs) c.0 (f x) (slice_get-map f xs c.0 ∙ ap (option_map f) c.1)

-- elements that pass
pub filter_contains : {A : Type 0} (p : A → Bool) (xs : List A) (x : A) → Contains xs x → p x ≡ true → Contains (filter p xs) x
filter_contains p [] x h passes = absurd (contains_none x h)
filter_contains {A} p (y ∷ xs) x h passes = by (p y) refl (contains_cases y xs x h) (λ later. filter_contains p xs x later passes)
  where
    by : (b : Bool) → p y ≡ b → (y ≡ x) ⊎ Contains xs x → (Contains xs x → Contains (filter p xs) x) → Contains (cond b (y ∷ filter p xs) (filter p xs)) x
    by true e (inl same) further = subst (λ z. Contains (y ∷ filter p xs) z) same (contains_first y (filter p xs))
    by true e (inr later) further = contains_later y (filter p xs) x (further later)
    by false e (inl same) further = absurd (let f : p y ≡ p x = ap p same in cc)
    by false e (inr later) further = further later

pub contains_filter : {A : Type 0} (p : A → Bool) (xs : List A) (x : A) → Contains (filter p xs) x → Contains xs x
contains_filter p [] x h = h
contains_filter {A} p (y ∷ xs) x h = by (p y) h (contains_filter p xs x)
  where
    by : (b : Bool) → Contains (cond b (y ∷ filter p xs) (filter p xs)) x → (Contains (filter p xs) x → Contains xs x) → Contains (y ∷ xs) x
    by true k further = elim (contains_cases y (filter p xs) x k) [
      | inl same ↦ subst (λ z. Contains (y ∷ xs) z) same (contains_first y xs)
      | inr later ↦ contains_later y xs x (further later)
    ]
    by false k further = contains_later y xs x (further k)

-- what is true of each element with those before it is so of those that pass
pub each_filter : {A : Type 0} (P Q : List A → A → Type 0) (p : A → Bool) → ((before : List A) (x : A) → p x ≡ true → P before x → Q (filter p before) x) →
    (before xs : List A) → EachAfter P before xs → EachAfter Q (filter p before) (filter p xs)
each_filter P Q p f before [] e = tt
each_filter {A} P Q p f before (x ∷ xs) e = by (p x) refl (each_filter P Q p f (before ++ x ∷ []) xs e.1)
  where
    by : (b : Bool) → p x ≡ b → EachAfter Q (filter p (before ++ x ∷ [])) (filter p xs) → EachAfter Q (filter p before) (cond b (x ∷ filter p xs) (filter p xs))
    by true is rest = (
      f before x is e.0,
      subst (λ z. EachAfter Q z (filter p xs)) (filter-append p before (x ∷ []) ∙ ap (λ b. filter p before ++ cond b (x ∷ []) []) is) rest,
    )
    by false is rest =
        subst (λ z. EachAfter Q z (filter p xs)) (filter-append p before (x ∷ []) ∙ ap (λ b. filter p before ++ cond b (x ∷ []) []) is ∙ append-nil (filter p before)) rest

-- all pass
pub all_pass : {A : Type 0} (p : A → Bool) (xs : List A) → ((x : A) → Contains xs x → p x ≡ true) → list_all p xs ≡ true
all_pass p [] each = refl
all_pass p (x ∷ xs) each =
    ap (λ b. b && list_all p xs) (each x (contains_first x xs)) ∙ all_pass p xs (λ y h. each y (contains_later x xs y h))

-- an element of a list with one more
pub get_push : {A : Type 0} (xs : List A) (x y : A) (i : ℕ) → slice_get (xs ++ x ∷ []) i ≡ Some y → (slice_get xs i ≡ Some y) ⊎ ((i ≡ length xs) × (x ≡ y))
get_push [] x y zero is = inr (refl, cc)
get_push [] x y (suc i) is = absurd (cc)
get_push (z ∷ xs) x y zero is = inl is
get_push (z ∷ xs) x y (suc i) is = elim (get_push xs x y i is) [ inl a ↦ inl a | inr b ↦ inr (ap suc b.0, b.1) ]
