-- `config` in state, over all statements.
use Rattle.std.proofs.Common.{inl, inr, ◌≡◌, ◌<◌, ◌≤◌, ◌+◌, ◌⊎◌, ℕ, Bool, true, false, List, length, get_or, refl, sym, ap, subst, ◌∙◌, arith}
use Rattle.std.specs.Prelude.{Some, None, slice_get, Contains}
use Rattle.std.proofs.lemmas.Bool.{cases_lt}
use Rattle.std.proofs.lemmas.Option.{slice_get-get_or}
use Rattle.nc_yang_words.specs.declared.statement.Statement.{Statement}
use Rattle.nc_yang_statements.specs.declared.fault.Fault.{Fault}
use Rattle.nc_yang_statements.specs.Keywords.{is_closed}
use Rattle.nc_yang_statements.specs.Statements.{below, kind}
use Rattle.nc_yang_statements.specs.Rules.{first}
use Rattle.nc_yang_statements.proofs.Firsts.{first_contains, first_lacks}
use Rattle.nc_yang_scopes.specs.States.{BreaksState, KeepsState, configured, inside, is_state_in, itself}
use Rattle.nc_yang_scopes.proofs.Lists.{get_within}

-- what breaks the rule is looked at
looked_at : (state : Bool) (s : Statement) (fault : Fault) → BreaksState state s fault → is_closed (kind s) ≡ false
looked_at state s fault (itself _ _ _ is_open b) = is_open
looked_at state s fault (inside _ _ t place _ is_open at h) = is_open

-- nothing is asked in it
pub closed_keeps : (state : Bool) (s : Statement) → is_closed (kind s) ≡ true → KeepsState state s
closed_keeps state s shut fault h = let e = looked_at state s fault h in cc (e, shut)

module _ (state : Bool) (s : Statement) (is_open : is_closed (kind s) ≡ false) where
  pub breaks_here : (fault : Fault) → Some fault ≡ first (configured state s) → BreaksState state s fault
  breaks_here fault e = itself state s fault is_open (first_contains (configured state s) fault (sym e))

  module _ (among : List Statement) (among_is : among ≡ below s) (within : Bool) (within_is : within ≡ is_state_in state s) where
    pub breaks_inside : (place : ℕ) (t : Statement) (fault : Fault) → place < length among → t ≡ get_or among place t → BreaksState within t fault → BreaksState state s fault
    breaks_inside place t fault less is h =
        inside state s t place fault is_open (ap (λ ts. slice_get ts place) (sym among_is) ∙ slice_get-get_or among place t less ∙ ap Some (sym is))
        (subst (λ b. BreaksState b t fault) within_is h)

    pub keeps_more : (place : ℕ) (t : Statement) → place < length among → t ≡ get_or among place t → KeepsState within t →
        ((i : ℕ) (c : Statement) → i < place → slice_get among i ≡ Some c → KeepsState within c) → (i : ℕ) (c : Statement) → i < place + 1 → slice_get among i ≡ Some c → KeepsState within c
    keeps_more place t less is keeps so_far i c lt at = by (cases_lt i place)
      where
        by : (i < place) ⊎ (place ≤ i) → KeepsState within c
        by (inl earlier) = so_far i c earlier at
        by (inr now) =
            let here : i ≡ place = omega arith in
            let same : t ≡ c = let e : Some t ≡ Some c = ap Some is ∙ sym (slice_get-get_or among place t less) ∙ ap (slice_get among) (sym here) ∙ at in cc in
            subst (KeepsState within) same keeps

    pub keeps_all : (count : ℕ) → None ≡ first (configured state s) → length among ≤ count → ((i : ℕ) (c : Statement) → i < count → slice_get among i ≡ Some c → KeepsState within c) → KeepsState state s
    keeps_all count none le so_far fault h = by state s fault refl refl h
      where
        by : (b : Bool) (k : Statement) (f : Fault) → b ≡ state → k ≡ s → BreaksState b k f → ⊥
        by b k f state_is same (itself _ _ _ open_there breaks) =
            first_lacks (configured state s) f (sym none) (subst (λ z. Contains (configured z s) f) state_is (subst (λ z. Contains (configured b z) f) same breaks))
        by b k f state_is same (inside _ _ t place _ open_there at d) =
            let there : slice_get among place ≡ Some t = ap (λ ts. slice_get ts place) among_is ∙ ap (λ z. slice_get (below z) place) (sym same) ∙ at in
            so_far place t (let less = get_within among place t there in omega arith) there f
            (subst (λ z. BreaksState z t f) (ap (λ z. is_state_in z k) state_is ∙ ap (is_state_in state) same ∙ sym within_is) d)
