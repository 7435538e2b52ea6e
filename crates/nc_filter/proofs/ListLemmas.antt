-- Lists that are asked whether one of their elements passes a test, in any order and with repeats.
use Rattle.std.proofs.Common.{◌≡◌, ◌||◌, ◌-◌, ◌+◌, ◌<◌, ℕ, zero, suc, Bool, true, false, List, [], ◌∷◌, ◌++◌, None, Some, length, refl, sym, ap, ◌∙◌, arith}
use Rattle.std.specs.Prelude.{map, slice_get}
use Rattle.std.specs.List.{list_any}
use Rattle.std.proofs.lemmas.List.Folds.{list_any-append}
use Rattle.std.proofs.lemmas.List.Sorted.{list_any-IsPermutation}
use Rattle.std.proofs.lemmas.Option.{same_Some}
use Rattle.std.specs.List.Sorted.{IsPermutation}
use Rattle.nc_filter.specs.inner.Lists.{AddsOne, IsLast, IsSame}
use Rattle.nc_filter.proofs.Unions.{any_map, or_assoc, or_false, or_swap}

pub sorted_is : {X : Type 0} (before now : List X) → IsPermutation before now → IsSame before now
sorted_is before now moved test = sym (list_any-IsPermutation test before now moved)

pub moved_is : {X Y : Type 0} (f : X → Y) (before now : List X) → IsPermutation before now → IsSame (map f before) (map f now)
moved_is f before now moved test =
    any_map test f now ∙ sorted_is before now moved (λ x. test (f x)) ∙ sym (any_map test f before)

any_at : {X : Type 0} (test : X → Bool) (xs : List X) (i : ℕ) (x : X) → slice_get xs i ≡ Some x → test x ≡ true → list_any test xs ≡ true
any_at test [] i x at e = let clash : None ≡ Some x = at in cc
any_at test (y ∷ ys) zero x at e = ap (λ b. b || list_any test ys) (ap test (same_Some y x at) ∙ e)
any_at test (y ∷ ys) (suc i) x at e = ap (λ b. test y || b) (any_at test ys i x at e) ∙ last (test y)
  where
    last : (b : Bool) → (b || true) ≡ true
    last true = refl
    last false = refl

pub once_there : {X : Type 0} (xs : List X) (x : X) → IsLast xs x → AddsOne xs xs x
once_there xs x last test = by (test x) refl
  where
    by : (b : Bool) → test x ≡ b → list_any test xs ≡ (list_any test xs || test x)
    by false e = sym (ap (λ b. list_any test xs || b) e ∙ or_false (list_any test xs))
    by true e = let here = any_at test xs (length xs - 1) x last e in here ∙ sym (ap (λ b. b || test x) here)

pub once_more : {X : Type 0} (xs now : List X) (x : X) → now ≡ xs ++ x ∷ [] → AddsOne xs now x
once_more xs now x is test = ap (list_any test) is ∙ list_any-append test xs (x ∷ []) ∙ ap (λ b. list_any test xs || b) (or_false (test x))

-- one is taken off the end of what is left, and put to what is there
pub popped : {X : Type 0} (test : X → Bool) (out now : Bool) (left rest : List X) (x : X) → left ≡ rest ++ x ∷ [] → now ≡ (out || test x) →
    (now || list_any test rest) ≡ (out || list_any test left)
popped test out now left rest x is adds =
    ap (λ b. b || list_any test rest) adds
    ∙ or_assoc out (test x) (list_any test rest)
    ∙ ap (λ b. out || b) (or_swap (test x) (list_any test rest)
    ∙ ap (λ b. list_any test rest || b) (sym (or_false (test x)))
    ∙ sym (ap (list_any test) is ∙ list_any-append test rest (x ∷ [])))

pub popped_all : {X : Type 0} (test : X → Bool) (out whole : Bool) (rest : List X) → rest ≡ [] → (out || list_any test rest) ≡ whole → out ≡ whole
popped_all test out whole rest none so_far = sym (or_false out) ∙ ap (λ list. out || list_any test list) (sym none) ∙ so_far

count_push : {X : Type 0} (xs : List X) (x : X) → length (xs ++ x ∷ []) ≡ length xs + 1
count_push [] x = refl
count_push (y ∷ ys) x = let more = count_push ys x in omega (arith, more)

pub shorter : {X : Type 0} (left rest : List X) (x : X) → left ≡ rest ++ x ∷ [] → length rest < length left
shorter left rest x is =
    let count = ap length is in
    let more = count_push rest x in
    omega (arith, count, more)
