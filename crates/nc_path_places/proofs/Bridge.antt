-- A text names a path exactly where a path goes on so from the top.
use Rattle.std.proofs.Common.{◌≡◌, ◌⊎◌, inl, inr, ℕ, suc, ◌≤◌, ◌+◌, Bool, true, false, not, cond, eqb, ◌||◌, List, [], ◌∷◌, Option, Some, None, length, find, is_some, option_map, refl, sym, ap, subst, ◌∙◌, arith}
use Rattle.std.specs.List.{list_all}
use Rattle.std.proofs.lemmas.Bool.Decides.{Decides-eqb}
use Rattle.nc_names.proofs.SameLemmas.{first_true, second_true, both_true}
use Rattle.nc_names.specs.declared.name.Bound.{Bound}
use Rattle.nc_schema.specs.InstancePaths.{is_of_key, key_given}
use Rattle.nc_schema.specs.Tables.{Tables}
use Rattle.nc_schema.specs.declared.written.WrittenName.{WrittenName}
use Rattle.nc_schema.specs.declared.written.WrittenPredicate.{WrittenPredicate}
use Rattle.nc_path_places.specs.Apart.{AreApart, IsOfNone}
use Rattle.nc_path_places.specs.inner.Going.{without}
use Rattle.nc_path_places.proofs.Naming.{find_passes}

-- ---- predicates that give each key at most once
module _ (tables : Tables) (bounds : List Bound) (number : ℕ) where
  -- the key is given by one of the predicates
  abbrev pub is_given : List WrittenPredicate → ℕ → Bool
  is_given written key = is_some (key_given tables bounds number written key)

  -- how many of the keys are given
  abbrev pub count : List WrittenPredicate → List ℕ → ℕ
  count written [] = 0
  count written (key ∷ keys) = cond (is_given written key) 1 0 + count written keys

  -- each predicate gives one of the keys, which is then left out
  abbrev pub Covers : Bool → List ℕ → List WrittenPredicate → Type 0
  Covers all left [] = all ≡ true → left ≡ []
  Covers all left (one ∷ more) = (key : ℕ) × (find (λ other. is_of_key tables bounds number other one.key) left ≡ Some key) × Covers all (without key left) more

  -- a key is given by the first predicate or by another
  given_first : (one : WrittenPredicate) (more : List WrittenPredicate) (key : ℕ) → is_given (one ∷ more) key ≡ (is_of_key tables bounds number key one.key || is_given more key)
  given_first one more key = by (is_of_key tables bounds number key one.key)
    where
      by : (t : Bool) → is_some (option_map (λ (x : WrittenPredicate). x.value) (cond t (Some one) (find (λ (x : WrittenPredicate). is_of_key tables bounds number key x.key) more))) ≡ (t || is_given more key)
      by true = refl
      by false = refl

  -- the keys without one that is not among them
  without_none : (key : ℕ) (written : Option WrittenName) (keys : List ℕ) → is_of_key tables bounds number key written ≡ true → IsOfNone tables bounds number written keys → without key keys ≡ keys
  without_none key written [] at none = refl
  without_none key written (k ∷ keys) at none = by (eqb k key) refl (without_none key written keys at none.1)
    where
      by : (t : Bool) → eqb k key ≡ t → without key keys ≡ keys → cond (not t) (k ∷ without key keys) (without key keys) ≡ k ∷ keys
      by true same rest =
          let clash : false ≡ true = sym none.0 ∙ ap (λ x. is_of_key tables bounds number x written) ((Decides-eqb k key).0 same) ∙ at in
          cc
      by false same rest = ap (λ x. k ∷ x) rest

  none_without : (key : ℕ) (b : List Bound) (written : Option WrittenName) (keys : List ℕ) → IsOfNone tables b number written keys → IsOfNone tables b number written (without key keys)
  none_without key b written [] none = tt
  none_without key b written (k ∷ keys) none = by (eqb k key) (none_without key b written keys none.1)
    where
      by : (t : Bool) → IsOfNone tables b number written (without key keys) → IsOfNone tables b number written (cond (not t) (k ∷ without key keys) (without key keys))
      by true rest = rest
      by false rest = (none.0, rest)

  apart_without : (key : ℕ) (keys : List ℕ) → AreApart tables number keys → AreApart tables number (without key keys)
  apart_without key [] apart = tt
  apart_without key (k ∷ keys) apart = by (eqb k key) (apart_without key keys apart.1)
    where
      by : (t : Bool) → AreApart tables number (without key keys) → AreApart tables number (cond (not t) (k ∷ without key keys) (without key keys))
      by true rest = rest
      by false rest = ((λ b written at. none_without key b written keys (apart.0 b written at)), rest)

  -- a predicate of none of them counts nothing
  count_none : (one : WrittenPredicate) (more : List WrittenPredicate) (keys : List ℕ) → IsOfNone tables bounds number one.key keys → count (one ∷ more) keys ≡ count more keys
  count_none one more [] none = refl
  count_none one more (k ∷ keys) none =
      let here : is_given (one ∷ more) k ≡ is_given more k = given_first one more k ∙ ap (λ t. t || is_given more k) none.0 in
      let rest = count_none one more keys none.1 in
      λ i. cond (here i) 1 0 + rest i

  -- the first of the keys counts once, and the others as they did
  count_one : (one : WrittenPredicate) (more : List WrittenPredicate) (keys : List ℕ) (key : ℕ) → AreApart tables number keys → find (λ other. is_of_key tables bounds number other one.key) keys ≡ Some key → count (one ∷ more) keys ≡ suc (count more (without key keys))
  count_one one more [] key apart e = cc
  count_one one more (k ∷ keys) key apart e = by (is_of_key tables bounds number k one.key) refl e (count_one one more keys key apart.1)
    where
      differ : (t : Bool) → eqb k key ≡ t → is_of_key tables bounds number key one.key ≡ true → is_of_key tables bounds number k one.key ≡ false → t ≡ false
      differ true same holds fails = let clash : true ≡ false = sym holds ∙ ap (λ x. is_of_key tables bounds number x one.key) (sym ((Decides-eqb k key).0 same)) ∙ fails in cc
      differ false same holds fails = refl

      by : (t : Bool) → is_of_key tables bounds number k one.key ≡ t → cond t (Some k) (find (λ other. is_of_key tables bounds number other one.key) keys) ≡ Some key → (find (λ other. is_of_key tables bounds number other one.key) keys ≡ Some key → count (one ∷ more) keys ≡ suc (count more (without key keys))) → count (one ∷ more) (k ∷ keys) ≡ suc (count more (without key (k ∷ keys)))
      by true at f further =
          let same : k ≡ key = cc in
          let here : is_given (one ∷ more) k ≡ true = given_first one more k ∙ ap (λ t. t || is_given more k) at in
          let none = apart.0 bounds one.key at in
          let rest = count_none one more keys none in
          let left : without key (k ∷ keys) ≡ keys =
          ap (λ t. cond (not t) (k ∷ without key keys) (without key keys)) ((Decides-eqb k key).1 same) ∙ without_none key one.key keys (ap (λ x. is_of_key tables bounds number x one.key) (sym same) ∙ at) none in
          let first : count (one ∷ more) (k ∷ keys) ≡ 1 + count more keys = λ i. cond (here i) 1 0 + rest i in
          let last : count more (without key (k ∷ keys)) ≡ count more keys = ap (count more) left in
          omega (arith, first, last)
      by false at f further =
          let rest = further f in
          let found = find_passes (λ other. is_of_key tables bounds number other one.key) keys key f in
          let here : is_given (one ∷ more) k ≡ is_given more k = given_first one more k ∙ ap (λ t. t || is_given more k) at in
          let other : eqb k key ≡ false = differ (eqb k key) refl found.0 at in
          let left : without key (k ∷ keys) ≡ k ∷ without key keys = ap (λ t. cond (not t) (k ∷ without key keys) (without key keys)) other in
          let first : count (one ∷ more) (k ∷ keys) ≡ cond (is_given more k) 1 0 + suc (count more (without key keys)) = λ i. cond (here i) 1 0 + rest i in
          let last : count more (without key (k ∷ keys)) ≡ cond (is_given more k) 1 0 + count more (without key keys) = ap (count more) left in
          omega (arith, first, last)

  none_found : (written : Option WrittenName) (keys : List ℕ) → find (λ other. is_of_key tables bounds number other written) keys ≡ None → IsOfNone tables bounds number written keys
  none_found written [] e = tt
  none_found written (k ∷ keys) e = by (is_of_key tables bounds number k written) refl e (none_found written keys)
    where
      by : (t : Bool) → is_of_key tables bounds number k written ≡ t → cond t (Some k) (find (λ other. is_of_key tables bounds number other written) keys) ≡ None → (find (λ other. is_of_key tables bounds number other written) keys ≡ None → IsOfNone tables bounds number written keys) → IsOfNone tables bounds number written (k ∷ keys)
      by true at f further = absurd cc
      by false at f further = (at, further f)

  abbrev Found : Option WrittenName → List ℕ → Type 0
  Found written keys = ((key : ℕ) × (find (λ other. is_of_key tables bounds number other written) keys ≡ Some key)) ⊎ IsOfNone tables bounds number written keys

  found_or : (written : Option WrittenName) (keys : List ℕ) → Found written keys
  found_or written keys = by (find (λ other. is_of_key tables bounds number other written) keys) refl
    where
      by : (o : Option ℕ) → find (λ other. is_of_key tables bounds number other written) keys ≡ o → Found written keys
      by None e = inr (none_found written keys e)
      by (Some key) e = inl (key, e)

  count_empty : (keys : List ℕ) → count [] keys ≡ 0
  count_empty [] = refl
  count_empty (k ∷ keys) = ap (λ n. 0 + n) (count_empty keys)

  -- no more keys are given than there are predicates
  count_most : (written : List WrittenPredicate) (keys : List ℕ) → AreApart tables number keys → count written keys ≤ length written
  count_most [] keys apart = let e = count_empty keys in omega (arith, e)
  count_most (one ∷ more) keys apart = by (found_or one.key keys) (count_most more)
    where
      by : Found one.key keys → ((left : List ℕ) → AreApart tables number left → count more left ≤ length more) → count (one ∷ more) keys ≤ length (one ∷ more)
      by (inl (key, e)) further = let rest = further (without key keys) (apart_without key keys apart) in omega (arith, count_one one more keys key apart e, rest)
      by (inr none) further = let rest = further keys apart in omega (arith, count_none one more keys none, rest)

  -- every one of the keys is given
  abbrev AllGiven : List WrittenPredicate → List ℕ → Type 0
  AllGiven written keys = list_all (is_given written) keys ≡ true

  given_rest : (one : WrittenPredicate) (more : List WrittenPredicate) (keys : List ℕ) → IsOfNone tables bounds number one.key keys → AllGiven (one ∷ more) keys → AllGiven more keys
  given_rest one more [] none all = refl
  given_rest one more (k ∷ keys) none all =
      both_true (is_given more k) (list_all (is_given more) keys)
      (sym (given_first one more k ∙ ap (λ t. t || is_given more k) none.0) ∙ first_true (is_given (one ∷ more) k) (list_all (is_given (one ∷ more)) keys) all)
      (given_rest one more keys none.1 (second_true (is_given (one ∷ more) k) (list_all (is_given (one ∷ more)) keys) all))

  -- all but the one that the first predicate gives are given by the others, and so all are by both
  given_without : (one : WrittenPredicate) (more : List WrittenPredicate) (keys : List ℕ) (key : ℕ) → AreApart tables number keys → find (λ other. is_of_key tables bounds number other one.key) keys ≡ Some key → AllGiven (one ∷ more) keys → AllGiven more (without key keys)
  given_without one more [] key apart e all = refl
  given_without one more (k ∷ keys) key apart e all = by (is_of_key tables bounds number k one.key) refl e (given_without one more keys key apart.1)
    where
      rest_given : AllGiven (one ∷ more) keys
      rest_given = second_true (is_given (one ∷ more) k) (list_all (is_given (one ∷ more)) keys) all

      keep : (t : Bool) → is_given more k ≡ true → AllGiven more (without key keys) → AllGiven more (cond (not t) (k ∷ without key keys) (without key keys))
      keep true here rest = rest
      keep false here rest = both_true (is_given more k) (list_all (is_given more) (without key keys)) here rest

      by : (t : Bool) → is_of_key tables bounds number k one.key ≡ t → cond t (Some k) (find (λ other. is_of_key tables bounds number other one.key) keys) ≡ Some key → (find (λ other. is_of_key tables bounds number other one.key) keys ≡ Some key → AllGiven (one ∷ more) keys → AllGiven more (without key keys)) → AllGiven more (without key (k ∷ keys))
      by true at f further =
          let same : k ≡ key = cc in
          let none = apart.0 bounds one.key at in
          let left : without key (k ∷ keys) ≡ keys =
          ap (λ t. cond (not t) (k ∷ without key keys) (without key keys)) ((Decides-eqb k key).1 same) ∙ without_none key one.key keys (ap (λ x. is_of_key tables bounds number x one.key) (sym same) ∙ at) none in
          subst (AllGiven more) (sym left) (given_rest one more keys none rest_given)
      by false at f further =
          keep (eqb k key) (sym (given_first one more k ∙ ap (λ t. t || is_given more k) at) ∙ first_true (is_given (one ∷ more) k) (list_all (is_given (one ∷ more)) keys) all) (further f rest_given)

  given_back : (one : WrittenPredicate) (more : List WrittenPredicate) (keys : List ℕ) (key : ℕ) → is_of_key tables bounds number key one.key ≡ true → AllGiven more (without key keys) → AllGiven (one ∷ more) keys
  given_back one more [] key at all = refl
  given_back one more (k ∷ keys) key at all = by (eqb k key) refl all (given_back one more keys key at)
    where
      or_right : (a b : Bool) → b ≡ true → (a || b) ≡ true
      or_right true b e = refl
      or_right false b e = e

      by : (t : Bool) → eqb k key ≡ t → AllGiven more (cond (not t) (k ∷ without key keys) (without key keys)) → (AllGiven more (without key keys) → AllGiven (one ∷ more) keys) → AllGiven (one ∷ more) (k ∷ keys)
      by true same rest later =
          both_true (is_given (one ∷ more) k) (list_all (is_given (one ∷ more)) keys)
          (given_first one more k ∙ ap (λ t. t || is_given more k) (ap (λ x. is_of_key tables bounds number x one.key) ((Decides-eqb k key).0 same) ∙ at)) (later rest)
      by false same rest later =
          both_true (is_given (one ∷ more) k) (list_all (is_given (one ∷ more)) keys)
          (given_first one more k ∙ or_right (is_of_key tables bounds number k one.key) (is_given more k) (first_true (is_given more k) (list_all (is_given more) (without key keys)) rest))
          (later (second_true (is_given more k) (list_all (is_given more) (without key keys)) rest))

  nothing_given : (keys : List ℕ) → AllGiven [] keys → keys ≡ []
  nothing_given [] all = refl
  nothing_given (k ∷ keys) all = cc

  pub covers : (all : Bool) (written : List WrittenPredicate) (keys : List ℕ) → AreApart tables number keys → count written keys ≡ length written → (all ≡ true → AllGiven written keys) → Covers all keys written
  covers all [] keys apart e given = λ f. nothing_given keys (given f)
  covers all (one ∷ more) keys apart e given = by (found_or one.key keys) (covers all more)
    where
      by : Found one.key keys → ((left : List ℕ) → AreApart tables number left → count more left ≡ length more → (all ≡ true → AllGiven more left) → Covers all left more) → Covers all keys (one ∷ more)
      by (inl (key, f)) further =
          let one_less = count_one one more keys key apart f in
          (key, f, further (without key keys) (apart_without key keys apart) (omega (arith, one_less, e)) (λ g. given_without one more keys key apart f (given g)))
      by (inr none) further = absurd (omega (arith, count_none one more keys none, count_most more keys apart, e))

  pub covered : (all : Bool) (written : List WrittenPredicate) (keys : List ℕ) → AreApart tables number keys → Covers all keys written → (count written keys ≡ length written) × (all ≡ true → AllGiven written keys)
  covered all [] keys apart covers_it = (count_empty keys, λ f. ap (list_all (is_given [])) (covers_it f))
  covered all (one ∷ more) keys apart (key, f, covers_it) =
      let rest = covered all more (without key keys) (apart_without key keys apart) covers_it in
      let found = find_passes (λ other. is_of_key tables bounds number other one.key) keys key f in
      (omega (arith, count_one one more keys key apart f, rest.0), (λ g. given_back one more keys key found.0 (rest.1 g)))
