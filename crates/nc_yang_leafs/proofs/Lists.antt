-- Elements of lists.
use Rattle.std.proofs.Common.{inl, inr, ◌≡◌, ◌&&◌, ℕ, zero, suc, Bool, true, false, List, [], ◌∷◌, ◌++◌, length, map, refl, sym, ap, ◌∙◌, subst}
use Rattle.std.specs.Prelude.{◌⊎◌, Option, Some, None, slice_get, option_map, Contains}
use Rattle.std.specs.List.{flat_map}
use Rattle.std.specs.Option.{option_to_list}
use Rattle.std.proofs.lemmas.List.Elements.{Contains-append_cases, Contains-append_left, Contains-append_right}
use Rattle.std.proofs.lemmas.Option.{slice_get-get_or, slice_get-map}
use Rattle.nc_yang_order.proofs.Lists.{contains_at, contains_none, contains_one}
use Rattle.nc_yang_scopes.proofs.LinkLists.{contains_cases, contains_later}

-- both of two tests
pub and_both : (a b : Bool) → (a && b) ≡ true → (a ≡ true) × (b ≡ true)
and_both true b e = (refl, e)
and_both false b e = absurd (cc)

-- what there is of each element
pub contains_flat_map : {A B : Type 0} (f : A → Option B) (xs : List A) (y : B) → Contains (flat_map (λ x. option_to_list (f x)) xs) y → (x : A) × Contains xs x × (f x ≡ Some y)
contains_flat_map f [] y h = absurd (contains_none y h)
contains_flat_map {A} {B} f (x ∷ xs) y h = elim (Contains-append_cases (option_to_list (f x)) (flat_map (λ z. option_to_list (f z)) xs) y h) [
  | inl now ↦ (x, contains_at (x ∷ xs) 0 x refl, by (f x) now)
  | inr later ↦ (let r = contains_flat_map f xs y later in (r.0, contains_later x xs r.0 r.1, r.2))
]
  where
    by : (o : Option B) → Contains (option_to_list o) y → o ≡ Some y
    by None c = absurd (contains_none y c)
    by (Some z) c = ap Some (contains_one z y c)

pub flat_map_contains : {A B : Type 0} (f : A → Option B) (xs : List A) (x : A) (y : B) → Contains xs x → f x ≡ Some y → Contains (flat_map (λ z. option_to_list (f z)) xs) y
flat_map_contains f [] x y h is = absurd (contains_none x h)
flat_map_contains f (z ∷ xs) x y h is = elim (contains_cases z xs x h) [
  | inl now ↦ Contains-append_left (option_to_list (f z)) (flat_map (λ k. option_to_list (f k)) xs) y
      (let e : f z ≡ Some y = ap f now ∙ is in subst (λ o. Contains (option_to_list o) y) (sym e) (contains_at (y ∷ []) 0 y refl))
  | inr later ↦ Contains-append_right (option_to_list (f z)) (flat_map (λ k. option_to_list (f k)) xs) y (flat_map_contains f xs x y later is)
]

-- the number of one of several statements
pub number_of_one : {A : Type 0} (f : ℕ → Option A) (numbers : List ℕ) (ls : List A) → map f numbers ≡ map Some ls → (place : ℕ) (l : A) → slice_get ls place ≡ Some l →
    (number : ℕ) × Contains numbers number × (f number ≡ Some l)
number_of_one f [] [] e place l at = absurd (cc)
number_of_one f [] (m ∷ ls) e place l at = absurd (cc)
number_of_one f (n ∷ numbers) [] e place l at = absurd (cc)
number_of_one f (n ∷ numbers) (m ∷ ls) e zero l at = let head : f n ≡ Some m = cc in let same : m ≡ l = cc in (n, contains_at (n ∷ numbers) 0 n refl, head ∙ ap Some same)
number_of_one f (n ∷ numbers) (m ∷ ls) e (suc place) l at =
    let r = number_of_one f numbers ls (cc) place l at in (r.0, contains_later n numbers r.0 r.1, r.2)
