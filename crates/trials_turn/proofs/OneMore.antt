-- One more entry.
use Rattle.std.proofs.Common.{◌≡◌, ◌⊎◌, ◌≤◌, ◌+◌, ℕ, List, [], ◌∷◌, ◌++◌, length, refl, sym, ap, subst, ◌∙◌, inl, inr, ⊎_elim, arith, length-append}
use Rattle.std.specs.List.{All}
use Rattle.std.specs.Prelude.{fold, if◌then◌else◌}
use Rattle.nc_model.specs.declared.event.Event.{Event}
use Rattle.std.proofs.lemmas.List.Elements.{All-push}
use Rattle.nc_model.specs.declared.entry.Entry.{Entry}
use Rattle.nc_model.specs.declared.event.Event.TheVariants.{End}
use Rattle.nc_model.specs.declared.event.Outcome.{Outcome}
use Rattle.nc_model.specs.declared.event.Outcome.TheVariants.{NotLive}
use Rattle.nc_model.specs.ProperEvents.{IsProperEvent}
use Rattle.nc_model.specs.Desks.{is_own, own_of}
use Rattle.nc_model.specs.State.{State, expired}
use Rattle.nc_model.specs.Step.{CountsFaults, Fits, changed, has_failed, next, outcome_of, reaches_disk}
use Rattle.nc_model.specs.History.{after, IsLegal}
use Rattle.trials_turn.specs.Counting.{counter_home, Counts, IsCounted}
use Rattle.trials_turn.specs.declared.counter.Counter.{Counter}

last_or : (h : List Entry) (e : Entry) (before behind : List Entry) (x : Entry) → h ++ e ∷ [] ≡ before ++ x ∷ behind
    → ((more : List Entry) × (h ≡ before ++ x ∷ more)) ⊎ ((before ≡ h) × (x ≡ e))
last_or [] e [] behind x is = inr (refl, (let z : x ≡ e = cc in z))
last_or [] e (b ∷ bs) behind x is = absurd (omega (arith, ap length is, length-append bs (x ∷ behind)))
last_or (y ∷ ys) e [] behind x is = let z : y ≡ x = cc in inl (ys, ap (λ (w : Entry). w ∷ ys) z)
last_or (y ∷ ys) e (b ∷ bs) behind x is =
    let first : y ≡ b = cc in
    let rest : ys ++ e ∷ [] ≡ bs ++ x ∷ behind = cc in
    ⊎_elim (λ (t : (more : List Entry) × (ys ≡ bs ++ x ∷ more)). inl (t.0, λ i. first i ∷ t.1 i)) (λ (t : (bs ≡ ys) × (x ≡ e)). inr ((λ i. sym first i ∷ t.0 i), t.1)) (last_or ys e bs behind x rest)

pub one_more : (s : State) (h : List Entry) (e : Entry) → IsLegal 0 s h → e.number ≡ length h → Fits (after s h) e → IsLegal 0 s (h ++ e ∷ [])
one_more s h e legal number fits before behind x is =
    ⊎_elim
    (λ (t : (more : List Entry) × (h ≡ before ++ x ∷ more)). legal before t.0 x t.1)
    (λ (t : (before ≡ h) × (x ≡ e)). subst (λ (z : List Entry × Entry). (z.1.number ≡ 0 + length z.0) × Fits (after s z.0) z.1) (λ i. (sym t.0 i, sym t.1 i)) ((let z : e.number ≡ 0 + length h = omega arith in z), fits))
    (last_or h e before behind x is)

fold_last : (s : State) (h : List Entry) (e : Entry) → fold next s (h ++ e ∷ []) ≡ next (fold next s h) e
fold_last s [] e = refl
fold_last s (x ∷ xs) e = fold_last (next s x) xs e

fits_first : (session number : ℕ) (e : Entry) → IsCounted session number e → Fits counter_home.opening e
fits_first session number e it =
    let s = counter_home.opening in
    let P : Event → Type 0 = λ event. IsProperEvent event in
    let Q : Event → Type 0 = λ event. CountsFaults (reaches_disk (expired s e.at) event) (has_failed e.outcome) e.faults_before e.faults_after in
    record {
      proper = subst P (sym it.event_is) tt;
      outcome = it.outcome_is ∙ sym (λ i. outcome_of (expired s (it.at_is i)) (it.event_is i) (has_failed (it.outcome_is i)));
      before = it.before_is;
      faults = subst Q (sym it.event_is) (it.after_is ∙ sym it.before_is);
    }

pub counted_fits : (session number : ℕ) (h : List Entry) (e : Entry) → IsCounted session number e → after counter_home.opening h ≡ counter_home.opening → Fits (after counter_home.opening h) e
counted_fits session number h e it state = subst (λ (s : State). Fits s e) (sym state) (fits_first session number e it)

-- such an entry changes nothing
stays : (session number : ℕ) (e : Entry) → IsCounted session number e → next counter_home.opening e ≡ counter_home.opening
stays session number e it =
    let F : ℕ → Event → Outcome → ℕ → State =
    λ at event outcome faults. record (changed (expired counter_home.opening at) event outcome) { faults = faults } in
    λ i. F (it.at_is i) (it.event_is i) (it.outcome_is i) (it.after_is i)

pub counts_more : (session : ℕ) (c c' : Counter) (h : List Entry) (e : Entry) → IsCounted session c.count e → Counts c h → c'.count ≡ c.count + 1 → Counts c' (h ++ e ∷ [])
counts_more session c c' h e it counts count = record {
  count = omega (arith, counts.count, length-append h (e ∷ []));
  state = fold_last counter_home.opening h e ∙ ((λ i. next (counts.state i) e) ∙ stays session c.count e it);
}

pub work_more : (session : ℕ) (mine : List Entry) (e : Entry) → e.event ≡ End session → All (λ (x : Entry). x.event ≡ End session) mine → (own_of (e ∷ []) ≡ e ∷ []) × All (λ (x : Entry). x.event ≡ End session) (mine ++ e ∷ [])
work_more session mine e is all = (ap (λ (v : Event). if is_own v then e ∷ [] else []) is, All-push (λ (x : Entry). x.event ≡ End session) mine e all is)
