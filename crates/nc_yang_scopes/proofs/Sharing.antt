-- Names that are shared, over all statements.
use Rattle.std.proofs.Common.{inl, inr, ◌≡◌, ◌<◌, ◌≤◌, ◌+◌, ◌⊎◌, ℕ, true, false, cond, List, length, get_or, refl, sym, ap, subst, ◌∙◌, arith}
use Rattle.std.specs.Prelude.{Some, None, [], slice_get, Contains}
use Rattle.std.proofs.lemmas.Bool.{cases_lt}
use Rattle.std.proofs.lemmas.Option.{slice_get-get_or}
use Rattle.nc_yang_words.specs.declared.statement.Statement.{Statement}
use Rattle.nc_yang_statements.specs.declared.fault.Fault.{Fault}
use Rattle.nc_yang_statements.specs.Keywords.{is_closed}
use Rattle.nc_yang_statements.specs.Statements.{below, kind}
use Rattle.nc_yang_statements.specs.Rules.{first}
use Rattle.nc_yang_statements.proofs.Firsts.{first_contains, first_lacks}
use Rattle.nc_yang_scopes.specs.Spaces.{BreaksSpaces, IsWithin, KeepsSpaces, faults_in, inside, itself, renamed}
use Rattle.nc_yang_scopes.proofs.Lists.{get_within}

-- nothing is asked in it
pub closed_keeps : (s : Statement) → is_closed (kind s) ≡ true → KeepsSpaces s
closed_keeps s shut fault h = by s refl h.stands h.breaks
  where
    by : (k : Statement) → k ≡ s → IsWithin k h.statement → Contains (faults_in h.statement) fault → ⊥
    by k same (itself j) b =
        first_lacks [] fault refl (subst (λ c. Contains (cond c [] (renamed s)) fault) shut (subst (λ z. Contains (faults_in z) fault) same b))
    by k same (inside j t u place is_open at d) b = let e : is_closed (kind s) ≡ false = subst (λ z. is_closed (kind z) ≡ false) same is_open in cc (e, shut)

module _ (s : Statement) (is_open : is_closed (kind s) ≡ false) where
  same_faults : faults_in s ≡ renamed s
  same_faults = ap (λ c. cond c [] (renamed s)) is_open

  pub breaks_here : (fault : Fault) → Some fault ≡ first (renamed s) → BreaksSpaces s fault
  breaks_here fault e = record { statement = s; stands = itself s; breaks = first_contains (faults_in s) fault (ap first same_faults ∙ sym e) }

  module _ (among : List Statement) (among_is : among ≡ below s) where
    pub breaks_inside : (place : ℕ) (t : Statement) (fault : Fault) → place < length among → t ≡ get_or among place t → BreaksSpaces t fault → BreaksSpaces s fault
    breaks_inside place t fault less is h = record {
      statement = h.statement;
      stands = inside s t h.statement place is_open (ap (λ ts. slice_get ts place) (sym among_is) ∙ slice_get-get_or among place t less ∙ ap Some (sym is)) h.stands;
      breaks = h.breaks;
    }

    pub keeps_more : (place : ℕ) (t : Statement) → place < length among → t ≡ get_or among place t → KeepsSpaces t →
        ((i : ℕ) (c : Statement) → i < place → slice_get among i ≡ Some c → KeepsSpaces c) → (i : ℕ) (c : Statement) → i < place + 1 → slice_get among i ≡ Some c → KeepsSpaces c
    keeps_more place t less is keeps so_far i c lt at = by (cases_lt i place)
      where
        by : (i < place) ⊎ (place ≤ i) → KeepsSpaces c
        by (inl earlier) = so_far i c earlier at
        by (inr now) =
            let here : i ≡ place = omega arith in
            let same : t ≡ c = let e : Some t ≡ Some c = ap Some is ∙ sym (slice_get-get_or among place t less) ∙ ap (slice_get among) (sym here) ∙ at in cc in
            subst KeepsSpaces same keeps

    pub keeps_all : (count : ℕ) → None ≡ first (renamed s) → length among ≤ count → ((i : ℕ) (c : Statement) → i < count → slice_get among i ≡ Some c → KeepsSpaces c) → KeepsSpaces s
    keeps_all count none le so_far fault h = by s refl h.stands h.breaks
      where
        by : (k : Statement) → k ≡ s → IsWithin k h.statement → Contains (faults_in h.statement) fault → ⊥
        by k same (itself j) b = first_lacks (renamed s) fault (sym none) (subst (λ fs. Contains fs fault) same_faults (subst (λ z. Contains (faults_in z) fault) same b))
        by k same (inside j t u place open_there at d) b =
            let there : slice_get among place ≡ Some t = ap (λ ts. slice_get ts place) among_is ∙ ap (λ z. slice_get (below z) place) (sym same) ∙ at in
            so_far place t (let less = get_within among place t there in omega arith) there fault (record { statement = h.statement; stands = d; breaks = b })
