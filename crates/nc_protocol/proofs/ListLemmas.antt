-- Lists: where two that are joined are cut, and what holds of each element; what std proves has a plain name here.
use Rattle.std.proofs.Common.{◌≡◌, ◌⊎◌, ◌≤◌, ◌+◌, Bool, true, false, cond, ℕ, zero, suc, List, [], ◌∷◌, ◌++◌, length, Some, refl, sym, ap, ◌∙◌, inl, inr, arith}
use Rattle.std.proofs.lemmas.Bool.{false_from_ne_true}
use Rattle.std.proofs.lemmas.List.Elements.{All-filter, Contains-append_right}
use Rattle.std.proofs.lemmas.List.Folds.{list_any_at}
use Rattle.std.proofs.lemmas.Option.{get_or_from_slice_get, slice_get_within}
use Rattle.std.specs.List.{All, Contains, filter, list_any}
use Rattle.std.specs.Prelude.{slice_get}
pub use Rattle.std.proofs.lemmas.List.Elements.{All-append as all_append, All-cons as all_cons, Contains-append_left as contains_more}
pub use Rattle.std.proofs.lemmas.List.Kept.{AllPairs-cons as pairs_cons, AllPairs-filter as pairs_filter}
pub use Rattle.std.proofs.lemmas.List.Quantifiers.{all_pairs_push as pairs_last}
pub use Rattle.std.proofs.lemmas.List.Sums.{fold-append as fold_join}
pub use Rattle.std.proofs.lemmas.Option.{same_Some as some_same}

pub heads_same : {X : Type 0} (x y : X) (xs ys : List X) → x ∷ xs ≡ y ∷ ys → x ≡ y
heads_same x y xs ys e = cc

pub tails_same : {X : Type 0} (x y : X) (xs ys : List X) → x ∷ xs ≡ y ∷ ys → xs ≡ ys
tails_same x y xs ys e = cc

pub no_element : {X : Type 0} (before behind : List X) (x : X) → ¬ ([] ≡ before ++ x ∷ behind)
no_element [] behind x e = cc
no_element (b ∷ before) behind x e = cc

-- no list goes on from itself
pub too_long : {X : Type 0} (xs : List X) (y : X) (ys more : List X) → ¬ (xs ≡ (xs ++ y ∷ ys) ++ more)
too_long [] y ys more e = cc
too_long (x ∷ xs) y ys more e = too_long xs y ys more (tails_same x x xs ((xs ++ y ∷ ys) ++ more) e)

-- an element of two lists that are joined stands in the first or in the second
pub split : {X : Type 0} (xs ys before behind : List X) (e : X) → xs ++ ys ≡ before ++ e ∷ behind →
    ((more : List X) × (xs ≡ before ++ e ∷ more)) ⊎ ((more : List X) × (before ≡ xs ++ more) × (ys ≡ more ++ e ∷ behind))
split [] ys before behind e is = inr (before, refl, is)
split (x ∷ xs) ys [] behind e is = inl (xs, (λ i. heads_same x e (xs ++ ys) behind is i ∷ xs))
split {X} (x ∷ xs) ys (y ∷ before) behind e is = by (split xs ys before behind e (tails_same x y (xs ++ ys) (before ++ e ∷ behind) is))
  where
    same : x ≡ y
    same = heads_same x y (xs ++ ys) (before ++ e ∷ behind) is

    by : (((more : List X) × (xs ≡ before ++ e ∷ more)) ⊎ ((more : List X) × (before ≡ xs ++ more) × (ys ≡ more ++ e ∷ behind)))
        → ((more : List X) × (x ∷ xs ≡ y ∷ (before ++ e ∷ more))) ⊎ ((more : List X) × (y ∷ before ≡ x ∷ (xs ++ more)) × (ys ≡ more ++ e ∷ behind))
    by (inl (more, front)) = inl (more, (λ i. same i ∷ front i))
    by (inr (more, front, rest)) = inr (more, (λ i. sym same i ∷ front i), rest)

-- an element alone is the first
pub one_element : {X : Type 0} (e x : X) (before behind : List X) → e ∷ [] ≡ before ++ x ∷ behind → (before ≡ []) × (e ≡ x)
one_element e x [] behind is = (refl, heads_same e x [] behind is)
one_element e x (y ∷ before) behind is = absurd (no_element before behind x (tails_same e y [] (before ++ x ∷ behind) is))

-- a list that ends in an element, cut in two
pub last_cut : {X : Type 0} (xs ys rest : List X) (x : X) → xs ++ x ∷ [] ≡ ys ++ rest → (rest ≡ []) ⊎ ((more : List X) × (xs ≡ ys ++ more))
last_cut xs [] rest x e = inr (xs, refl)
last_cut [] (y ∷ []) [] x e = inl refl
last_cut [] (y ∷ []) (r ∷ rest) x e = absurd (no_element [] rest r (tails_same x y [] (r ∷ rest) e))
last_cut [] (y ∷ z ∷ ys) rest x e = absurd (no_element [] (ys ++ rest) z (tails_same x y [] (z ∷ (ys ++ rest)) e))
last_cut {X} (a ∷ xs) (y ∷ ys) rest x e = by (last_cut xs ys rest x (tails_same a y _ _ e))
  where
    by : (rest ≡ []) ⊎ ((more : List X) × (xs ≡ ys ++ more)) → (rest ≡ []) ⊎ ((more : List X) × (a ∷ xs ≡ y ∷ (ys ++ more)))
    by (inl none) = inl none
    by (inr (more, is)) = inr (more, (λ i. heads_same a y _ _ e i ∷ is i))

pub all_one : {X : Type 0} (P : X → Type 0) (x : X) → P x → All P (x ∷ [])
all_one P x p zero d within = p
all_one P x p (suc k) d within = absurd (omega (arith, within))

pub contains_behind : {X : Type 0} (y : X) (xs : List X) (x : X) → Contains xs x → Contains (y ∷ xs) x
contains_behind y xs x (k, within, here) = (suc k, omega (arith, within), here)

pub contains_here : {X : Type 0} (before behind : List X) (x : X) → Contains (before ++ x ∷ behind) x
contains_here before behind x = Contains-append_right before (x ∷ behind) x (0, omega arith, refl)

pub contains_last : {X : Type 0} (xs : List X) (x : X) → Contains (xs ++ x ∷ []) x
contains_last xs x = contains_here xs [] x

-- an element that is read at a place
pub contains_at : {X : Type 0} (xs : List X) (place : ℕ) (x : X) → slice_get xs place ≡ Some x → Contains xs x
contains_at xs place x is = (place, slice_get_within xs place x is, get_or_from_slice_get xs place x x is)

-- where an element stands
pub contains_split : {X : Type 0} (xs : List X) (x : X) → Contains xs x → (before : List X) × (behind : List X) × (xs ≡ before ++ x ∷ behind)
contains_split [] x (k, within, here) = absurd (omega (arith, within))
contains_split (y ∷ xs) x (zero, within, here) = ([], xs, (λ i. here i ∷ xs))
contains_split {X} (y ∷ xs) x (suc k, within, here) = by (contains_split xs x (k, omega (arith, within), here))
  where
    by : (before : List X) × (behind : List X) × (xs ≡ before ++ x ∷ behind) → (before : List X) × (behind : List X) × (y ∷ xs ≡ before ++ x ∷ behind)
    by (before, behind, is) = (y ∷ before, behind, (λ i. y ∷ is i))

pub all_filter : {X : Type 0} (P : X → Type 0) (t : X → Bool) (xs : List X) → All P xs → All P (filter t xs)
all_filter P t xs all = All-filter t P xs all

-- where no element passes a test, one of them does not
pub none_passes : {X : Type 0} (p : X → Bool) (xs : List X) (x : X) → list_any p xs ≡ false → Contains xs x → p x ≡ false
none_passes p xs x none (k, within, here) =
    false_from_ne_true (p x) (λ passes. let clash : true ≡ false = sym (list_any_at p xs k x within (ap p here ∙ passes)) ∙ none in cc)

either_shorter : {X : Type 0} (x : X) (xs : List X) (b : Bool) (n : ℕ) → length xs ≤ n → length (cond b (x ∷ xs) xs) ≤ n + 1
either_shorter x xs true n h = omega (arith, h)
either_shorter x xs false n h = omega (arith, h)

pub filter_shorter : {X : Type 0} (t : X → Bool) (xs : List X) → length (filter t xs) ≤ length xs
filter_shorter t [] = omega arith
filter_shorter t (x ∷ xs) = omega (arith, either_shorter x (filter t xs) (t x) (length xs) (filter_shorter t xs))

-- lists that are the same have the same last element, and the same before it
pub same_before : {X : Type 0} (xs ys : List X) (x y : X) → xs ++ x ∷ [] ≡ ys ++ y ∷ [] → (xs ≡ ys) × (x ≡ y)
same_before [] [] x y e = (refl, heads_same x y [] [] e)
same_before [] (z ∷ ys) x y e = absurd (no_element ys [] y (tails_same x z [] (ys ++ y ∷ []) e))
same_before (z ∷ xs) [] x y e = absurd (no_element xs [] x (sym (tails_same z y (xs ++ x ∷ []) [] e)))
same_before (z ∷ xs) (w ∷ ys) x y e =
    let rest = same_before xs ys x y (tails_same z w (xs ++ x ∷ []) (ys ++ y ∷ []) e) in
    ((λ i. heads_same z w (xs ++ x ∷ []) (ys ++ y ∷ []) e i ∷ rest.0 i), rest.1)

pub last_same : {X : Type 0} (xs ys : List X) (x y : X) → xs ++ x ∷ [] ≡ ys ++ y ∷ [] → x ≡ y
last_same xs ys x y e = (same_before xs ys x y e).1
