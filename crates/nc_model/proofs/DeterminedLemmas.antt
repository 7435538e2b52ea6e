-- What makes a history.
use Rattle.std.proofs.Common.{◌≡◌, ◌+◌, ℕ, List, [], ◌∷◌, map, refl, sym, ap, subst, ◌∙◌}
use Rattle.nc_model.specs.History.{IsLegal}
use Rattle.nc_model.specs.Laws.{made_from, HistoryIsDetermined}
use Rattle.nc_model.specs.State.{State, expired}
use Rattle.nc_model.specs.Step.{Fits, next, outcome_of}
use Rattle.nc_model.specs.declared.entry.Entry.{Entry}
use Rattle.nc_model.proofs.HistoryLemmas.{legal_histories_join, one_entry_is_legal}

-- two entries of one number that fit one state and are made from the same are one
same_entry : (s : State) (e other : Entry) → Fits s e → Fits s other → e.number ≡ other.number → made_from e ≡ made_from other → e ≡ other
same_entry s e other fits fits_other number made = λ i. record {
  number = number i;
  at = (made i).1;
  event = (made i).0;
  outcome = outcome i;
  faults_before = (fits.before ∙ sym fits_other.before) i;
  faults_after = (made i).3;
}
  where
    outcome : e.outcome ≡ other.outcome
    outcome = fits.outcome ∙ (λ i. outcome_of (expired s (made i).1) (made i).0 (made i).2) ∙ sym fits_other.outcome

-- the first entry and the rest of a legal history
first_fits : (first : ℕ) (s : State) (e : Entry) (rest : List Entry) → IsLegal first s (e ∷ rest) → (e.number ≡ first) × Fits s e × IsLegal (first + 1) (next s e) rest
first_fits first s e rest legal =
    let both = (legal_histories_join first s (e ∷ []) rest).0 legal in
    let one = (one_entry_is_legal first s e).0 both.0 in
    (one.0, one.1, both.1)

abbrev head_or : {A : Type 0} → A → List A → A
head_or other [] = other
head_or other (x ∷ xs) = x

abbrev rest_of : {A : Type 0} → List A → List A
rest_of [] = []
rest_of (x ∷ xs) = xs

same_head : {A : Type 0} (x y : A) (xs ys : List A) → x ∷ xs ≡ y ∷ ys → (x ≡ y) × (xs ≡ ys)
same_head x y xs ys e = (ap (head_or x) e, ap rest_of e)

pub history_is_determined : HistoryIsDetermined
history_is_determined first s [] [] legal legal_other made = refl
history_is_determined first s [] (other ∷ others) legal legal_other made = cc
history_is_determined first s (e ∷ es) [] legal legal_other made = cc
history_is_determined first s (e ∷ es) (other ∷ others) legal legal_other made =
    let here = first_fits first s e es legal in
    let there = first_fits first s other others legal_other in
    let parts = same_head (made_from e) (made_from other) (map made_from es) (map made_from others) made in
    let same = same_entry s e other here.1 there.1 (here.0 ∙ sym there.0) parts.0 in
    let rest = history_is_determined (first + 1) (next s e) es others here.2 (subst (λ (x : Entry). IsLegal (first + 1) (next s x) others) (sym same) there.2) parts.1 in
    λ i. same i ∷ rest i
