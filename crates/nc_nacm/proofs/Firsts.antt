-- The place of the first that passes one of some tests.
use Rattle.std.proofs.Common.{◌≡◌, ◌+◌, ◌<◌, ◌≤◌, ◌||◌, ℕ, suc, Bool, true, false, cond, List, [], ◌∷◌, ◌++◌, length, take, drop, map, get_or, ◌-◌, refl, sym, ap, ◌∙◌, arith, Option, Some, None, Bor}
use Rattle.std.proofs.lemmas.List.{at_drop_more, drop_all, get_or-map, length-map, take_more}
use Rattle.std.proofs.lemmas.List.Folds.{list_any-append}
use Rattle.std.proofs.Math.Nat.{min-eq_left, min-eq_right}
use Rattle.std.specs.List.{All, find, list_any, position_from}
use Rattle.std.specs.Prelude.{IfSome, slice_get, option_and_then}
use Rattle.nc_names.specs.declared.path.Right.{Right}
use Rattle.nc_names.specs.declared.path.Step.{Step}
use Rattle.nc_model.specs.Decision.{matches_data, module_at, rules_for}
use Rattle.nc_model.specs.Sight.{Viewer}
use Rattle.nc_model.specs.declared.policy.Rule.{Rule}
use Rattle.nc_nacm.specs.inner.Found.{earlier, matches_under}

-- no place is before the one from which places are counted
least : {X : Type 0} (t : X → Bool) (n : ℕ) (xs : List X) → IfSome (position_from t n xs) (λ k. n ≤ k)
least t n [] = tt
least t n (x ∷ xs) = by (t x) (least t (n + 1) xs)
  where
    weaker : (found : Option ℕ) → IfSome found (λ k. n + 1 ≤ k) → IfSome found (λ k. n ≤ k)
    weaker None h = h
    weaker (Some k) h = omega (arith, h)

    by : (b : Bool) → IfSome (position_from t (n + 1) xs) (λ k. n + 1 ≤ k) → IfSome (cond b (Some n) (position_from t (n + 1) xs)) (λ k. n ≤ k)
    by true h = omega arith
    by false h = weaker (position_from t (n + 1) xs) h

first_left : (n : ℕ) (found : Option ℕ) → IfSome found (λ k. n + 1 ≤ k) → earlier (Some n) found ≡ Some n
first_left n None h = refl
first_left n (Some k) h = ap Some (min-eq_left (omega (arith, h)))

first_right : (n : ℕ) (found : Option ℕ) → IfSome found (λ k. n + 1 ≤ k) → earlier found (Some n) ≡ Some n
first_right n None h = refl
first_right n (Some k) h = ap Some (min-eq_right (omega (arith, h)))

first_both : (n : ℕ) → earlier (Some n) (Some n) ≡ Some n
first_both n = ap Some (min-eq_left (omega arith))

pub either_first : {X : Type 0} (f g : X → Bool) (n : ℕ) (xs : List X) → position_from (λ x. f x || g x) n xs ≡ earlier (position_from f n xs) (position_from g n xs)
either_first f g n [] = refl
either_first f g n (x ∷ xs) = by (f x) (g x) (either_first f g (n + 1) xs) (least f (n + 1) xs) (least g (n + 1) xs)
  where
    by : (a b : Bool) → position_from (λ x. f x || g x) (n + 1) xs ≡ earlier (position_from f (n + 1) xs) (position_from g (n + 1) xs) →
        IfSome (position_from f (n + 1) xs) (λ k. n + 1 ≤ k) → IfSome (position_from g (n + 1) xs) (λ k. n + 1 ≤ k) →
        cond (a || b) (Some n) (position_from (λ x. f x || g x) (n + 1) xs) ≡ earlier (cond a (Some n) (position_from f (n + 1) xs)) (cond b (Some n) (position_from g (n + 1) xs))
    by true true rest f_less g_less = sym (first_both n)
    by true false rest f_less g_less = sym (first_left n (position_from g (n + 1) xs) g_less)
    by false true rest f_less g_less = sym (first_right n (position_from f (n + 1) xs) f_less)
    by false false rest f_less g_less = rest

pub same_first : {X : Type 0} (f g : X → Bool) (n : ℕ) (xs : List X) → All (λ x. f x ≡ g x) xs → position_from f n xs ≡ position_from g n xs
same_first f g n [] all = refl
same_first f g n (x ∷ xs) all = λ i. cond (all 0 x (omega arith) i) (Some n) (same_first f g (n + 1) xs (λ k d less. all (suc k) d (omega (arith, less))) i)

pub none_first : {X : Type 0} (n : ℕ) (xs : List X) → position_from (λ x. false) n xs ≡ None
none_first n [] = refl
none_first n (x ∷ xs) = none_first (n + 1) xs

-- one test more
pub one_more_first : {X S : Type 0} (test : S → X → Bool) (tests : List S) (i : ℕ) (s : S) (xs : List X) → i < length tests → s ≡ get_or tests i s →
    earlier (position_from (λ x. list_any (λ one. test one x) (take i tests)) 0 xs) (position_from (test s) 0 xs)
    ≡ position_from (λ x. list_any (λ one. test one x) (take (i + 1) tests)) 0 xs
one_more_first test tests i s xs within is =
    sym (either_first (λ x. list_any (λ one. test one x) (take i tests)) (test s) 0 xs)
    ∙ ap (λ f. position_from f 0 xs) (λ j x. each x j)
  where
    right : (b : Bool) → (b || false) ≡ b
    right true = refl
    right false = refl

    each : (x : _) → (list_any (λ one. test one x) (take i tests) || test s x) ≡ list_any (λ one. test one x) (take (i + 1) tests)
    each x = sym (ap (list_any (λ one. test one x)) (take_more tests i s within ∙ ap (λ one. take i tests ++ one ∷ []) (sym is))
        ∙ list_any-append (λ one. test one x) (take i tests) (s ∷ [])
        ∙ ap (λ b. list_any (λ one. test one x) (take i tests) || b) (right (test s x)))

-- what is found is what stands at the place of the first
pub find_first : {X : Type 0} (t : X → Bool) (xs : List X) (n : ℕ) → find t xs ≡ option_and_then (λ k. slice_get xs (k - n)) (position_from t n xs)
find_first t [] n = refl
find_first t (x ∷ xs) n = by (t x) (find_first t xs (n + 1)) (least t (n + 1) xs)
  where
    here : (k : ℕ) → k ≡ 0 → Some x ≡ slice_get (x ∷ xs) k
    here k e = sym (ap (slice_get (x ∷ xs)) e)

    behind : (k : ℕ) → n + 1 ≤ k → slice_get xs (k - (n + 1)) ≡ slice_get (x ∷ xs) (k - n)
    behind k le = let more : k - n ≡ suc (k - (n + 1)) = omega (arith, le) in sym (ap (slice_get (x ∷ xs)) more)

    over : (found : Option ℕ) → IfSome found (λ k. n + 1 ≤ k) → option_and_then (λ k. slice_get xs (k - (n + 1))) found ≡ option_and_then (λ k. slice_get (x ∷ xs) (k - n)) found
    over None h = refl
    over (Some k) h = behind k h

    by : (b : Bool) → find t xs ≡ option_and_then (λ k. slice_get xs (k - (n + 1))) (position_from t (n + 1) xs) → IfSome (position_from t (n + 1) xs) (λ k. n + 1 ≤ k) →
        cond b (Some x) (find t xs) ≡ option_and_then (λ k. slice_get (x ∷ xs) (k - n)) (cond b (Some n) (position_from t (n + 1) xs))
    by true rest h = here (n - n) (omega arith)
    by false rest h = rest ∙ over (position_from t (n + 1) xs) h

pub find_from_start : {X : Type 0} (t : X → Bool) (xs : List X) → find t xs ≡ option_and_then (λ k. slice_get xs k) (position_from t 0 xs)
find_from_start t xs = find_first t xs 0 ∙ ap (λ at. option_and_then at (position_from t 0 xs)) (λ i k. slice_get xs (same k i))
  where
    same : (k : ℕ) → k - 0 ≡ k
    same k = omega arith

-- the rule that is found, by what is known of its place
pub first_found : (viewer : Viewer) (steps : List Step) (right : Right) (rules : List Rule) (name : List ℕ) (place : Option ℕ) (found : Option Rule) →
    rules ≡ rules_for viewer.policy viewer.peer → name ≡ module_at viewer.tables steps → place ≡ position_from (matches_under name steps right) 0 rules →
    found ≡ option_and_then (λ at. slice_get rules at) place → found ≡ find (matches_data viewer.tables steps right) (rules_for viewer.policy viewer.peer)
first_found viewer steps right rules name place found rules_are name_is place_is is =
    is ∙ ap (option_and_then (λ at. slice_get rules at)) (place_is ∙ ap (λ called. position_from (matches_under called steps right) 0 rules) name_is)
    ∙ sym (find_from_start (matches_data viewer.tables steps right) rules)
    ∙ ap (find (matches_data viewer.tables steps right)) rules_are

-- ---- a walk along rules
module _ (test : Rule → Bool) (rules : List (Bor Rule)) (i : ℕ) where
  abbrev all : List Rule
  all = map (λ (one : Bor Rule). one.now) rules

  long : length all ≡ length rules
  long = length-map rules (λ (one : Bor Rule). one.now)

  at_first : (rule : Bor Rule) → i < length rules → rule ≡ get_or rules i rule →
      position_from test i (drop i all) ≡ cond (test rule.now) (Some i) (position_from test (i + 1) (drop (i + 1) all))
  at_first rule within is =
      at_drop_more (position_from test i) all i rule.now (omega (arith, long, within))
      ∙ ap (λ (one : Rule). cond (test one) (Some i) (position_from test (i + 1) (drop (i + 1) all)))
      (get_or-map (λ (one : Bor Rule). one.now) rules i rule rule.now within ∙ ap (λ (one : Bor Rule). one.now) (sym is))

  pub first_stops : (rule : Bor Rule) (first : Option ℕ) → i < length rules → rule ≡ get_or rules i rule → test rule.now ≡ true →
      position_from test i (drop i all) ≡ first → Some i ≡ first
  first_stops rule first within is passes so =
      sym (at_first rule within is ∙ ap (λ b. cond b (Some i) (position_from test (i + 1) (drop (i + 1) all))) passes) ∙ so

  pub first_goes_on : (rule : Bor Rule) (first : Option ℕ) → i < length rules → rule ≡ get_or rules i rule → test rule.now ≡ false →
      position_from test i (drop i all) ≡ first → position_from test (i + 1) (drop (i + 1) all) ≡ first
  first_goes_on rule first within is fails so =
      sym (at_first rule within is ∙ ap (λ b. cond b (Some i) (position_from test (i + 1) (drop (i + 1) all))) fails) ∙ so

  pub first_ends : (first : Option ℕ) → length rules ≤ i → position_from test i (drop i all) ≡ first → None ≡ first
  first_ends first past so = sym (ap (position_from test i) (drop_all i all (omega (arith, long, past)))) ∙ so

  -- the same for what is found
  found_first : (rule : Bor Rule) → i < length rules → rule ≡ get_or rules i rule →
      find test (drop i all) ≡ cond (test rule.now) (Some rule.now) (find test (drop (i + 1) all))
  found_first rule within is =
      at_drop_more (find test) all i rule.now (omega (arith, long, within))
      ∙ ap (λ (one : Rule). cond (test one) (Some one) (find test (drop (i + 1) all)))
      (get_or-map (λ (one : Bor Rule). one.now) rules i rule rule.now within ∙ ap (λ (one : Bor Rule). one.now) (sym is))

  pub found_stops : (rule : Bor Rule) (found : Option Rule) → i < length rules → rule ≡ get_or rules i rule → test rule.now ≡ true →
      find test (drop i all) ≡ found → Some rule.now ≡ found
  found_stops rule found within is passes so =
      sym (found_first rule within is ∙ ap (λ b. cond b (Some rule.now) (find test (drop (i + 1) all))) passes) ∙ so

  pub found_goes_on : (rule : Bor Rule) (found : Option Rule) → i < length rules → rule ≡ get_or rules i rule → test rule.now ≡ false →
      find test (drop i all) ≡ found → find test (drop (i + 1) all) ≡ found
  found_goes_on rule found within is fails so =
      sym (found_first rule within is ∙ ap (λ b. cond b (Some rule.now) (find test (drop (i + 1) all))) fails) ∙ so

  pub found_ends : (found : Option Rule) → length rules ≤ i → find test (drop i all) ≡ found → None ≡ found
  found_ends found past so = sym (ap (find test) (drop_all i all (omega (arith, long, past)))) ∙ so

-- where none is found, none is found where they count
pub none_where : {X : Type 0} (p : X → Bool) (counts : Bool) (xs : List X) → find p xs ≡ None → find p (cond counts xs []) ≡ None
none_where p true xs none = none
none_where p false xs none = refl
