-- The cases of choices by their names.
use Rattle.std.proofs.Common.{◌≡◌, ◌<◌, ◌≤◌, ◌+◌, ◌&&◌, eqb, ℕ, zero, suc, Bool, true, false, List, [], ◌∷◌, length, drop, get_or, Some, None, refl, sym, ap, ◌∙◌, arith}
use Rattle.std.specs.Prelude.{slice_get}
use Rattle.std.proofs.lemmas.Bool.Decides.{nat_tests}
use Rattle.std.proofs.lemmas.List.{drop_more}
use Rattle.std.proofs.lemmas.Option.{get_or_from_slice_get, slice_get_within}
use Rattle.nc_names.proofs.SameLemmas.{second_true}
use Rattle.nc_schema.specs.declared.node.Case.{Case}
use Rattle.nc_yang_data.specs.Leafs.{CaseTest, are_named}

-- ---- names one after another
drop_at : {A : Type 0} (xs : List A) (n : ℕ) (x : A) → slice_get xs n ≡ Some x → drop n xs ≡ x ∷ drop (n + 1) xs
drop_at xs n x e = drop_more xs n x (slice_get_within xs n x e) ∙ ap (λ z. z ∷ drop (n + 1) xs) (get_or_from_slice_get xs n x x e)

drop_past : {A : Type 0} (xs : List A) (n : ℕ) → slice_get xs n ≡ None → drop n xs ≡ []
drop_past [] zero e = refl
drop_past [] (suc n) e = refl
drop_past (y ∷ xs) zero e = absurd (cc)
drop_past (y ∷ xs) (suc n) e = drop_past xs n e

module _ (named : CaseTest) (cases : List Case) (names : List (List ℕ)) (i at : ℕ) (d : Case) (within : i < length cases) (whole : Bool)
    (left : whole ≡ are_named named (drop i cases) (drop at names)) where
  abbrev k : Case
  k = get_or cases i d

  cut : drop i cases ≡ k ∷ drop (i + 1) cases
  cut = drop_more cases i d within

  pub no_choice : slice_get names at ≡ None → whole ≡ false
  no_choice none = left ∙ (λ j. are_named named (cut j) (drop_past names at none j))

  module _ (choice : List ℕ) (here : slice_get names at ≡ Some choice) where
    pub no_case : slice_get names (at + 1) ≡ None → whole ≡ false
    no_case none =
        left ∙ (λ j. are_named named (cut j) (drop_at names at choice here j))
        ∙ ap (λ ns. are_named named (k ∷ drop (i + 1) cases) (choice ∷ ns)) (drop_past names (at + 1) none)

    module _ (word : List ℕ) (next : slice_get names (at + 1) ≡ Some word) where
      pair : whole ≡ (named k choice word && are_named named (drop (i + 1) cases) (drop (at + 2) names))
      pair =
          left ∙ (λ j. are_named named (cut j) (drop_at names at choice here j))
          ∙ ap (λ ns. are_named named (k ∷ drop (i + 1) cases) (choice ∷ ns))
          (drop_at names (at + 1) word next ∙ ap (λ (n : ℕ). word ∷ drop n names) (let e : at + 1 + 1 ≡ at + 2 = omega arith in e))

      pub other_name : named k choice word ≡ false → whole ≡ false
      other_name off = pair ∙ ap (λ b. b && are_named named (drop (i + 1) cases) (drop (at + 2) names)) off

      pub same_name : named k choice word ≡ true → whole ≡ are_named named (drop (i + 1) cases) (drop (at + 2) names)
      same_name on = pair ∙ ap (λ b. b && are_named named (drop (i + 1) cases) (drop (at + 2) names)) on

-- two names lead through each
counted : (named : CaseTest) (cases : List Case) (names : List (List ℕ)) → are_named named cases names ≡ true → length names ≡ length cases + length cases
counted named [] [] e = refl
counted named [] (n ∷ names) e = absurd (cc)
counted named (k ∷ cases) [] e = absurd (cc)
counted named (k ∷ cases) (c ∷ []) e = absurd (cc)
counted named (k ∷ cases) (c ∷ n ∷ names) e = let r = counted named cases names (second_true (named k c n) (are_named named cases names) e) in omega (arith, r)

pub few_named : (named : CaseTest) (cases : List Case) (names : List (List ℕ)) → eqb (length names) (length cases + length cases) ≡ false → are_named named cases names ≡ false
few_named named cases names none = by (are_named named cases names) refl
  where
    by : (b : Bool) → are_named named cases names ≡ b → b ≡ false
    by true e =
        let r = counted named cases names e in
        let s : eqb (length names) (length cases + length cases) ≡ true = grind (arith, nat_tests, r) in
        absurd (cc (none, s))
    by false e = refl

pub names_end : (named : CaseTest) (cases : List Case) (names : List (List ℕ)) (i at : ℕ) → length cases ≤ i → at ≤ length names → are_named named (drop i cases) (drop at names) ≡ eqb at (length names)
names_end named cases names i at past within = ap (λ ks. are_named named ks (drop at names)) (none cases i past) ∙ by at names within
  where
    none : (ks : List Case) (i : ℕ) → length ks ≤ i → drop i ks ≡ []
    none [] zero h = refl
    none [] (suc i) h = refl
    none (k ∷ ks) zero h = absurd (omega (arith, h))
    none (k ∷ ks) (suc i) h = none ks i (omega (arith, h))

    by : (at : ℕ) (names : List (List ℕ)) → at ≤ length names → are_named named [] (drop at names) ≡ eqb at (length names)
    by zero [] h = refl
    by zero (n ∷ names) h = sym (let e : eqb 0 (length (n ∷ names)) ≡ false = grind (arith, nat_tests) in e)
    by (suc at) [] h = absurd (omega (arith, h))
    by (suc at) (n ∷ names) h = by at names (omega (arith, h)) ∙ grind (arith, nat_tests)
