-- Lists that are cut, and texts that stand before.
use Rattle.std.proofs.Common.{◌≡◌, ◌≢◌, ◌<◌, ◌+◌, ◌||◌, ℕ, zero, suc, Bool, true, false, List, [], ◌∷◌, ◌++◌, length, take, map, get_or, refl, sym, ap, ◌∙◌, arith}
use Rattle.std.specs.Prelude.{Option, Some, slice_get, slice_set, Contains}
use Rattle.std.specs.List.{AllPairs, list_any}
use Rattle.std.specs.Cmp.Lexicographic.{bytes_decides}
use Rattle.std.proofs.lemmas.List.{get_or_append_left, get_or-append-add, length-append}
use Rattle.std.proofs.lemmas.List.Folds.{list_any_at}
use Rattle.std.proofs.lemmas.List.Quantifiers.{all_pairs_push}
use Rattle.nc_names.specs.Same.{is_same_text}

-- the rest of a list after an element
pub cut_at : {A : Type 0} (xs : List A) (i : ℕ) (x : A) → slice_get xs i ≡ Some x → (after : List A) × (xs ≡ take i xs ++ x ∷ after)
cut_at [] i x is = absurd (cc)
cut_at (y ∷ xs) zero x is = (xs, let same : y ≡ x = cc in ap (λ z. z ∷ xs) same)
cut_at (y ∷ xs) (suc i) x is = let h = cut_at xs i x is in (h.0, ap (λ z. y ∷ z) h.1)

pub get_middle : {A : Type 0} (xs ys : List A) (x : A) → slice_get (xs ++ x ∷ ys) (length xs) ≡ Some x
get_middle [] ys x = refl
get_middle (y ∷ xs) ys x = get_middle xs ys x

pub get_there : {A : Type 0} (xs : List A) (i : ℕ) → i < length xs → (x : A) × (slice_get xs i ≡ Some x)
get_there [] i less = absurd (omega arith)
get_there (x ∷ xs) zero less = (x, refl)
get_there (x ∷ xs) (suc i) less = get_there xs i (omega arith)

pub set_same : {A : Type 0} (xs : List A) (i : ℕ) (a b : A) → slice_get xs i ≡ Some a → slice_get (slice_set xs i b) i ≡ Some b
set_same [] i a b e = absurd (cc)
set_same (x ∷ xs) zero a b e = refl
set_same (x ∷ xs) (suc i) a b e = set_same xs i a b e

pub set_other : {A : Type 0} (xs : List A) (n j : ℕ) (b : A) → j ≢ n → slice_get (slice_set xs n b) j ≡ slice_get xs j
set_other [] n j b ne = refl
set_other (x ∷ xs) zero zero b ne = absurd (ne refl)
set_other (x ∷ xs) zero (suc j) b ne = refl
set_other (x ∷ xs) (suc n) zero b ne = refl
set_other (x ∷ xs) (suc n) (suc j) b ne = set_other xs n j b (λ e. ne (ap suc e))

pub set_length : {A : Type 0} (xs : List A) (n : ℕ) (b : A) → length (slice_set xs n b) ≡ length xs
set_length [] n b = refl
set_length (x ∷ xs) zero b = refl
set_length (x ∷ xs) (suc n) b = ap suc (set_length xs n b)

-- some of a list of texts is one of them
pub contains_any : (v : List ℕ) (xs : List (List ℕ)) → list_any (λ u. is_same_text u v) xs ≡ true → Contains xs v
contains_any v [] h = absurd (cc)
contains_any v (u ∷ us) h = by (is_same_text u v) refl h (contains_any v us)
  where
    by : (b : Bool) → is_same_text u v ≡ b → (b || list_any (λ u. is_same_text u v) us) ≡ true → (list_any (λ u. is_same_text u v) us ≡ true → Contains us v) → Contains (u ∷ us) v
    by true e h further = (0, omega arith, (bytes_decides u v).0 e)
    by false e h further = let r = further h in let less = r.1 in (suc r.0, omega arith, r.2)

-- one more that is none of them
pub apart_more : (xs : List (List ℕ)) (v : List ℕ) → AllPairs (λ one later. one ≢ later) xs → list_any (λ u. is_same_text u v) xs ≡ false → AllPairs (λ one later. one ≢ later) (xs ++ v ∷ [])
apart_more xs v apart none = all_pairs_push (λ one later. one ≢ later) xs v apart (λ k d less same.
    let found = list_any_at (λ u. is_same_text u v) xs k d less ((bytes_decides (get_or xs k d) v).1 same) in
    let clash : true ≡ false = sym found ∙ none in cc)

-- where none is one before it, none stands again
pub never_again : (before after : List (List ℕ)) (v : List ℕ) → AllPairs (λ one later. one ≢ later) (before ++ v ∷ after) → Contains before v → ⊥
never_again before after v apart again =
    let less = again.1 in
    let counted = length-append before (v ∷ after) in
    let low : get_or (before ++ v ∷ after) again.0 v ≡ v = get_or_append_left before (v ∷ after) v again.0 less ∙ again.2 in
    let same_place : length before + 0 ≡ length before = omega arith in
    let high : get_or (before ++ v ∷ after) (length before) v ≡ v = ap (λ n. get_or (before ++ v ∷ after) n v) (sym same_place) ∙ get_or-append-add before (v ∷ after) 0 v in
    apart again.0 (length before) v less (omega (arith, counted)) (low ∙ sym high)

pub map_some_same : {A : Type 0} (xs ys : List A) → map Some xs ≡ map Some ys → xs ≡ ys
map_some_same [] [] e = refl
map_some_same [] (y ∷ ys) e = absurd (cc)
map_some_same (x ∷ xs) [] e = absurd (cc)
map_some_same (x ∷ xs) (y ∷ ys) e = let head : x ≡ y = cc in let tail = map_some_same xs ys (cc) in λ i. head i ∷ tail i

-- what is read of a list that is cut
pub record ReadCut {A : Type 0} (f : A → Option (List ℕ)) (before after : List A) (x : A) (values : List (List ℕ)) : Type 0 where
  pub front : List (List ℕ)
  pub back : List (List ℕ)
  pub value : List ℕ
  pub cut : values ≡ front ++ value ∷ back
  pub read : map f before ≡ map Some front
  pub is : f x ≡ Some value

pub read_cut : {A : Type 0} (f : A → Option (List ℕ)) (before after : List A) (x : A) (values : List (List ℕ)) → map f (before ++ x ∷ after) ≡ map Some values → ReadCut f before after x values
read_cut f [] after x [] e = absurd (cc)
read_cut f [] after x (v ∷ vs) e = record { front = []; back = vs; value = v; cut = refl; read = refl; is = cc }
read_cut f (y ∷ before) after x [] e = absurd (cc)
read_cut f (y ∷ before) after x (v ∷ vs) e =
    let h = read_cut f before after x vs (cc) in
    let head : f y ≡ Some v = cc in
    record { front = v ∷ h.front; back = h.back; value = h.value; cut = ap (λ z. v ∷ z) h.cut; read = (λ i. head i ∷ h.read i); is = h.is }

-- a list whose values are cut
pub record CutRead {A : Type 0} (f : A → Option (List ℕ)) (xs : List A) (front back : List (List ℕ)) (value : List ℕ) : Type 0 where
  pub before : List A
  pub after : List A
  pub x : A
  pub cut : xs ≡ before ++ x ∷ after
  pub counted : length before ≡ length front
  pub read : map f before ≡ map Some front
  pub is : f x ≡ Some value

pub cut_read : {A : Type 0} (f : A → Option (List ℕ)) (xs : List A) (front back : List (List ℕ)) (value : List ℕ) → map f xs ≡ map Some (front ++ value ∷ back) → CutRead f xs front back value
cut_read f [] [] back value e = absurd (cc)
cut_read f [] (v ∷ front) back value e = absurd (cc)
cut_read f (y ∷ xs) [] back value e = record { before = []; after = xs; x = y; cut = refl; counted = refl; read = refl; is = cc }
cut_read f (y ∷ xs) (v ∷ front) back value e =
    let h = cut_read f xs front back value (cc) in
    let head : f y ≡ Some v = cc in
    record { before = y ∷ h.before; after = h.after; x = h.x; cut = ap (λ z. y ∷ z) h.cut; counted = ap suc h.counted; read = (λ i. head i ∷ h.read i); is = h.is }
