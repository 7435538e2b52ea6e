-- The numbers of statements: those of a book, and that there is one way to give them.
use Rattle.std.proofs.Common.{◌≡◌, ◌<◌, ◌≤◌, ◌+◌, ◌⊎◌, inl, inr, ℕ, zero, suc, List, [], ◌∷◌, ◌++◌, length, take, drop, refl, sym, ap, subst, ◌∙◌, arith, append-nil, append_assoc, length-append}
use Rattle.std.proofs.lemmas.Bool.{cases_lt}
use Rattle.std.proofs.lemmas.List.{take-append-drop, take-append-le}
use Rattle.std.proofs.Math.Seq.{take-append_seam}
use Rattle.nc_yang_words.specs.declared.statement.Statement.{Statement}
use Rattle.nc_yang_scopes.specs.Numbers.{Entry, children, located, opened, roots}
use Rattle.nc_yang_scopes.specs.Laws.{OneScoping}
use Rattle.nc_yang_scopes.proofs.Numbered.{length_roots}

pub take_all : {A : Type 0} (xs : List A) → take (length xs) xs ≡ xs
take_all xs = ap (take (length xs)) (sym (append-nil xs)) ∙ take-append_seam xs []

-- ---- there is one way
opened_append : (number : ℕ) (es fs : List Entry) → opened number (es ++ fs) ≡ opened number es ++ opened (number + length es) fs
opened_append number [] fs = let e : number ≡ number + 0 = omega arith in ap (λ n. opened n fs) e
opened_append number (e ∷ es) fs =
    let at : number + 1 + length es ≡ number + suc (length es) = omega arith in
    ap (λ more. children number e ++ more) (opened_append (number + 1) es fs ∙ ap (λ n. opened (number + 1) es ++ opened n fs) at)
    ∙ sym (append_assoc (children number e) (opened (number + 1) es) (opened (number + suc (length es)) fs))

-- what is known of the statements behind a front
fronted : (texts : List Statement) (es : List Entry) (k : ℕ) → es ≡ roots 0 texts ++ opened 0 es →
    es ≡ (roots 0 texts ++ opened 0 (take k es)) ++ opened (0 + length (take k es)) (drop k es)
fronted texts es k whole =
    whole
    ∙ ap (λ xs. roots 0 texts ++ opened 0 xs) (sym (take-append-drop k es))
    ∙ ap (λ xs. roots 0 texts ++ xs) (opened_append 0 (take k es) (drop k es))
    ∙ sym (append_assoc (roots 0 texts) (opened 0 (take k es)) (opened (0 + length (take k es)) (drop k es)))

module _ (texts : List Statement) (es fs : List Entry) (whole : es ≡ roots 0 texts ++ opened 0 es) (whole_too : fs ≡ roots 0 texts ++ opened 0 fs)
    (later : (number : ℕ) → number < length es → number < length texts + length (opened 0 (take number es))) where
  abbrev front : ℕ → List Entry
  front k = roots 0 texts ++ opened 0 (take k es)

  front_length : (k : ℕ) → length (front k) ≡ length texts + length (opened 0 (take k es))
  front_length k = length-append (roots 0 texts) (opened 0 (take k es)) ∙ ap (λ n. n + length (opened 0 (take k es))) (length_roots 0 texts)

  one_more : (k : ℕ) → k < length es → take k es ≡ take k fs → take (k + 1) es ≡ take (k + 1) fs
  one_more k within same =
      let less : k + 1 ≤ length (front k) = omega (arith, later k within, front_length k) in
      let rest = opened (0 + length (take k es)) (drop k es) in
      let rest_too = opened (0 + length (take k fs)) (drop k fs) in
      let front_too : roots 0 texts ++ opened 0 (take k fs) ≡ front k = ap (λ xs. roots 0 texts ++ opened 0 xs) (sym same) in
      ap (take (k + 1)) (fronted texts es k whole)
      ∙ take-append-le (k + 1) (front k) rest less
      ∙ sym (take-append-le (k + 1) (front k) rest_too less)
      ∙ ap (λ xs. take (k + 1) (xs ++ rest_too)) (sym front_too)
      ∙ sym (ap (take (k + 1)) (fronted texts fs k whole_too))

  same_front : (k : ℕ) → k ≤ length es → take k es ≡ take k fs
  same_front zero within = take_zero es ∙ sym (take_zero fs)
    where
      take_zero : (xs : List Entry) → take 0 xs ≡ []
      take_zero [] = refl
      take_zero (x ∷ xs) = refl
  same_front (suc k) within =
      let e : k + 1 ≡ suc k = omega arith in
      ap (λ n. take n es) (sym e) ∙ one_more k (omega (arith, within)) (same_front k (omega (arith, within))) ∙ ap (λ n. take n fs) e

  all_in_front : es ≡ take (length es) fs
  all_in_front = sym (take_all es) ∙ same_front (length es) (omega arith)

take_past : {A : Type 0} (n : ℕ) (xs : List A) → length xs ≤ n → take n xs ≡ xs
take_past zero [] le = refl
take_past zero (x ∷ xs) le = absurd (omega (arith, le))
take_past (suc n) [] le = refl
take_past (suc n) (x ∷ xs) le = ap (λ ys. x ∷ ys) (take_past n xs (omega (arith, le)))

-- the statements of texts have one number each
one_entries : (texts : List Statement) (es fs : List Entry) → es ≡ roots 0 texts ++ opened 0 es → fs ≡ roots 0 texts ++ opened 0 fs →
    ((number : ℕ) → number < length es → number < length texts + length (opened 0 (take number es))) →
    ((number : ℕ) → number < length fs → number < length texts + length (opened 0 (take number fs))) → es ≡ fs
one_entries texts es fs whole whole_too later later_too = by (cases_lt (length es) (length fs))
  where
    by : (length es < length fs) ⊎ (length fs ≤ length es) → es ≡ fs
    by (inl less) = sym (take_past (length fs) es (omega (arith, less))) ∙ sym (all_in_front texts fs es whole_too whole later_too)
    by (inr le) = all_in_front texts es fs whole whole_too later ∙ take_past (length es) fs le

pub one_scoping : OneScoping
one_scoping a b first second texts =
    let whole_too : second.entries ≡ roots 0 a.texts ++ opened 0 second.entries = subst (λ ts. second.entries ≡ roots 0 ts ++ opened 0 second.entries) (sym texts) second.whole in
    let later_too : (number : ℕ) → number < length second.entries → number < length a.texts + length (opened 0 (take number second.entries)) =
    λ number within. subst (λ ts. number < length ts + length (opened 0 (take number second.entries))) (sym texts) (second.later number within) in
    let entries : first.entries ≡ second.entries = one_entries a.texts first.entries second.entries first.whole whole_too first.later later_too in
    let located_same : a.located ≡ b.located = first.places ∙ ap located entries ∙ sym second.places in
    ap (λ ts. record { texts = ts; located = a.located }) texts ∙ ap (λ ls. record { texts = b.texts; located = ls }) located_same
