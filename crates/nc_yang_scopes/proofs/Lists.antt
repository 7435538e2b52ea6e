-- Elements of lists by their numbers.
use Rattle.std.proofs.Common.{◌≡◌, ◌<◌, ◌≤◌, ◌+◌, ℕ, zero, suc, Bool, true, false, cond, List, [], ◌∷◌, ◌++◌, length, take, refl, ap, ◌∙◌, arith}
use Rattle.std.specs.Prelude.{Some, None, slice_get, find}
use Rattle.std.specs.List.{position_from}
use Rattle.std.proofs.lemmas.List.{length-take-le}
use Rattle.nc_yang_scopes.specs.Tables.{either}

pub get_left : {A : Type 0} (xs ys : List A) (i : ℕ) → i < length xs → slice_get (xs ++ ys) i ≡ slice_get xs i
get_left [] ys i within = absurd (omega arith)
get_left (x ∷ xs) ys zero within = refl
get_left (x ∷ xs) ys (suc i) within = get_left xs ys i (omega arith)

pub get_right : {A : Type 0} (xs ys : List A) (n i : ℕ) → length xs ≡ n → slice_get (xs ++ ys) (n + i) ≡ slice_get ys i
get_right [] ys n i is = let e : n + i ≡ i = omega arith in ap (slice_get ys) e
get_right (x ∷ xs) ys zero i is = absurd (omega arith)
get_right (x ∷ xs) ys (suc n) i is = let e : suc n + i ≡ suc (n + i) = omega arith in ap (slice_get (x ∷ xs ++ ys)) e ∙ get_right xs ys n i (omega arith)

-- an element is there
pub get_within : {A : Type 0} (xs : List A) (i : ℕ) (x : A) → slice_get xs i ≡ Some x → i < length xs
get_within [] i x is = absurd (cc)
get_within (y ∷ xs) zero x is = omega arith
get_within (y ∷ xs) (suc i) x is = let more : i < length xs = get_within xs i x is in omega arith

-- a number past the end
pub past_end : {A : Type 0} (xs : List A) (n : ℕ) → slice_get xs n ≡ None → length xs ≤ n
past_end [] n is = omega arith
past_end (x ∷ xs) zero is = absurd (cc)
past_end (x ∷ xs) (suc n) is = let more : length xs ≤ n = past_end xs n is in omega arith

-- and ends the elements up to it
pub take_next : {A : Type 0} (xs : List A) (i : ℕ) (x : A) → slice_get xs i ≡ Some x → take (i + 1) xs ≡ take i xs ++ x ∷ []
take_next [] i x is = absurd (cc)
take_next (y ∷ xs) zero x is = let same : y ≡ x = cc in ap (λ z. z ∷ []) same
take_next (y ∷ xs) (suc i) x is =
    let e : suc i + 1 ≡ suc (i + 1) = omega arith in
    ap (λ n. take n (y ∷ xs)) e ∙ ap (λ zs. y ∷ zs) (take_next xs i x is)

-- the place of the first that passes, with one element more
pub position_push : {A : Type 0} (test : A → Bool) (xs : List A) (y : A) (from at : ℕ) → from + length xs ≡ at →
    position_from test from (xs ++ y ∷ []) ≡ either (position_from test from xs) (cond (test y) (Some at) None)
position_push test [] y from at is = let e : from ≡ at = omega arith in ap (λ n. cond (test y) (Some n) None) e
position_push test (x ∷ xs) y from at is = by (test x) (position_push test xs y (from + 1) at (omega arith))
  where
    by : (b : Bool) → position_from test (from + 1) (xs ++ y ∷ []) ≡ either (position_from test (from + 1) xs) (cond (test y) (Some at) None) →
        cond b (Some from) (position_from test (from + 1) (xs ++ y ∷ [])) ≡ either (cond b (Some from) (position_from test (from + 1) xs)) (cond (test y) (Some at) None)
    by true more = refl
    by false more = more

pub position_next : {A : Type 0} (test : A → Bool) (xs : List A) (i : ℕ) (x : A) → slice_get xs i ≡ Some x →
    position_from test 0 (take (i + 1) xs) ≡ either (position_from test 0 (take i xs)) (cond (test x) (Some i) None)
position_next test xs i x is =
    let within : i < length xs = get_within xs i x is in
    ap (position_from test 0) (take_next xs i x is)
    ∙ position_push test (take i xs) x 0 i (omega (arith, length-take-le i xs (omega arith)))

-- what is found, by its place
pub record IsFoundAt {A : Type 0} (test : A → Bool) (xs : List A) (from at : ℕ) : Type 0 where
  pub place : ℕ
  pub is : from + place ≡ at
  pub found : find test xs ≡ slice_get xs place
  pub within : place < length xs

pub found_at : {A : Type 0} (test : A → Bool) (xs : List A) (from at : ℕ) → position_from test from xs ≡ Some at → IsFoundAt test xs from at
found_at test [] from at is = absurd (cc)
found_at {A} test (x ∷ xs) from at is = by (test x) refl is (found_at test xs (from + 1) at)
  where
    by : (b : Bool) → test x ≡ b → cond b (Some from) (position_from test (from + 1) xs) ≡ Some at → (position_from test (from + 1) xs ≡ Some at → IsFoundAt test xs (from + 1) at) → IsFoundAt test (x ∷ xs) from at
    by true passes e further = let same : from ≡ at = cc in record { place = 0; is = omega arith; found = ap (λ c. cond c (Some x) (find test xs)) passes; within = omega arith }
    by false fails e further =
        let more = further e in
        record { place = suc more.place; is = omega (arith, more.is); found = ap (λ c. cond c (Some x) (find test xs)) fails ∙ more.found; within = omega (arith, more.within) }

pub found_none : {A : Type 0} (test : A → Bool) (xs : List A) (from : ℕ) → position_from test from xs ≡ None → find test xs ≡ None
found_none test [] from is = refl
found_none test (x ∷ xs) from is = by (test x) is (found_none test xs (from + 1))
  where
    by : (b : Bool) → cond b (Some from) (position_from test (from + 1) xs) ≡ None → (position_from test (from + 1) xs ≡ None → find test xs ≡ None) → cond b (Some x) (find test xs) ≡ None
    by true e further = absurd (cc)
    by false e further = further e
