-- The rules on types over all statements.
use Rattle.std.proofs.Common.{inl, inr, ◌≡◌, ◌<◌, ◌≤◌, ◌+◌, ◌⊎◌, ℕ, true, false, List, length, get_or, refl, sym, ap, subst, ◌∙◌, arith}
use Rattle.std.specs.Prelude.{Bool, Option, Some, None, Result, Ok, Err, slice_get, is_some, option_map, option_and_then, IfOk, IsSomeAnd, MatchOption}
use Rattle.std.proofs.lemmas.Bool.{cases_lt}
use Rattle.std.proofs.lemmas.Option.{slice_get-get_or}
use Rattle.nc_yang_words.specs.declared.statement.Statement.{Statement}
use Rattle.nc_yang_statements.specs.declared.fault.Fault.{Fault}
use Rattle.nc_yang_statements.specs.Keywords.{is_closed}
use Rattle.nc_yang_statements.specs.Statements.{below, kind}
use Rattle.nc_yang_scopes.specs.Scopes.{Located, Scoping, child, inside as inside_of, root}
use Rattle.nc_yang_scopes.specs.Names.{StandsIn, inside, itself}
use Rattle.nc_yang_scopes.specs.inner.Naming.{HasNumber}
use Rattle.nc_yang_scopes.proofs.Lists.{get_within}
use Rattle.nc_yang_scopes.proofs.BookLemmas.{root_past}
use Rattle.nc_yang_types.specs.Faults.{BreaksOne, BreaksType, BreaksTypes, KeepsTypes, RefersInUnion}
use Rattle.nc_yang_types.specs.Meanings.{Breaks}
use Rattle.nc_yang_types.specs.Plans.{AreMeanings, IsFinding}
use Rattle.nc_yang_types.specs.inner.Judging.{Judges, JudgesDefaults, JudgesGiven, JudgesMembers, JudgesOne, JudgesPlain, JudgesTaken, JudgesText, fault_in}
use Rattle.nc_yang_types.specs.declared.planned.Finding.{Finding}
use Rattle.nc_yang_types.specs.declared.planned.Finding.TheVariants.{Broken, Nothing, Plan}
use Rattle.nc_yang_types.specs.declared.planned.Meanings.{Meanings}
use Rattle.nc_yang_types.proofs.MeaningLemmas.{means_keeps}
use Rattle.nc_yang_scopes.proofs.PartLemmas.{statement_is}

module _ (scoping : Scoping) (meanings : Meanings) (n : ℕ) (s : Statement) (number : HasNumber scoping n s) (on : ℕ → List ℕ → Bool) (are : AreMeanings on scoping meanings) (l : Located) (here : slice_get scoping.located n ≡ Some l) where
  pub breaks_here : (fault : Fault) → Some fault ≡ fault_in (slice_get meanings.findings n) → Breaks on scoping.texts l fault
  breaks_here fault e = by (slice_get meanings.findings n) (are n l here) e
    where
      by : (o : Option Finding) → IsSomeAnd o (IsFinding on scoping meanings.plans l) → Some fault ≡ fault_in o → Breaks on scoping.texts l fault
      by None h e = absurd (cc)
      by (Some Nothing) h e = absurd (cc)
      by (Some (Broken other)) h e = let same : other ≡ fault = cc in subst (Breaks on scoping.texts l) same h.0
      by (Some (Plan k)) h e = absurd (cc)

  pub keeps_here : None ≡ fault_in (slice_get meanings.findings n) → (fault : Fault) → Breaks on scoping.texts l fault → ⊥
  keeps_here e = by (slice_get meanings.findings n) (are n l here) e
    where
      by : (o : Option Finding) → IsSomeAnd o (IsFinding on scoping meanings.plans l) → None ≡ fault_in o → (fault : Fault) → Breaks on scoping.texts l fault → ⊥
      by None h e = absurd h
      by (Some Nothing) h e = h.0
      by (Some (Broken other)) h e = absurd (cc)
      by (Some (Plan k)) h e = λ fault breaks. means_keeps on scoping.texts l h.meaning fault h.means breaks

  pub fault_here : (fault : Fault) → BreaksOne on scoping.texts l fault → BreaksType on scoping.texts l fault
  fault_here fault e = record { statement = l; stands = itself l; breaks = e }

  -- by itself or by a member of it
  pub plain_by_members : (result : Option Fault) → None ≡ fault_in (slice_get meanings.findings n) → JudgesMembers scoping meanings n result →
      MatchOption result ((fault : Fault) → Breaks on scoping.texts l fault ⊎ RefersInUnion on scoping.texts l fault → ⊥) (λ fault. Breaks on scoping.texts l fault ⊎ RefersInUnion on scoping.texts l fault)
  plain_by_members None none judged = λ fault h. elim h [ inl b ↦ keeps_here none fault b | inr r ↦ judged on are l here fault r ]
  plain_by_members (Some fault) none judged = inr (judged on are l here)

  -- a statement by itself and those in it
  either : (u : Located) (fault : Fault) → ((fault : Fault) → BreaksOne on scoping.texts l fault → ⊥) →
      ((c : Located) (place : ℕ) → is_closed (kind l.statement) ≡ false → child place l ≡ Some c → StandsIn c u → ⊥) → StandsIn l u → BreaksOne on scoping.texts u fault → ⊥
  either u fault none none_in stands breaks = by l refl stands breaks
    where
      by : (k : Located) → k ≡ l → StandsIn k u → BreaksOne on scoping.texts u fault → ⊥
      by k same (itself j) b = none fault (subst (λ z. BreaksOne on scoping.texts z fault) same b)
      by k same (inside j c i place is_open one d) b = none_in c place (subst (λ (z : Located). is_closed (kind z.statement) ≡ false) same is_open) (subst (λ z. child place z ≡ Some c) same one) d

  pub faultless_closed : (fault : Fault) → ((fault : Fault) → BreaksOne on scoping.texts l fault → ⊥) → is_closed (kind s) ≡ true → BreaksType on scoping.texts l fault → ⊥
  faultless_closed fault none shut h =
      either h.statement fault none
      (λ c place is_open one d. let e : is_closed (kind l.statement) ≡ true = ap (λ z. is_closed (kind z)) (statement_is scoping n s l number here) ∙ shut in cc (e, is_open)) h.stands h.breaks

  pub faultless_all : (among : List Statement) → among ≡ below s → (count : ℕ) (fault : Fault) → ((fault : Fault) → BreaksOne on scoping.texts l fault → ⊥) → length among ≤ count →
      ((i : ℕ) (c : Located) (fault : Fault) → i < count → child i l ≡ Some c → BreaksType on scoping.texts c fault → ⊥) → BreaksType on scoping.texts l fault → ⊥
  faultless_all among among_is count fault none le none_in h =
      either h.statement fault none
      (λ c place is_open one d. none_in place c fault (let less : place < length (below l.statement) = child_within place c one in let e = ap (λ z. length (below z)) (statement_is scoping n s l number here) in let f = ap length among_is in omega arith) one (record { statement = h.statement; stands = d; breaks = h.breaks })) h.stands h.breaks
    where
      child_within : (place : ℕ) (c : Located) → child place l ≡ Some c → place < length (below l.statement)
      child_within place c one = by (slice_get (below l.statement) place) refl one
        where
          put : Statement → Located
          put t = record { statement = t; place = inside_of l }

          by : (o : Option Statement) → slice_get (below l.statement) place ≡ o → option_map put o ≡ Some c → place < length (below l.statement)
          by None none e = absurd (cc)
          by (Some t) there e = get_within (below l.statement) place t there

  -- a child of it
  pub child_is : (among : List Statement) → among ≡ below s → (place : ℕ) (t : Statement) → place < length among → t ≡ get_or among place t → child place l ≡ Some (record { statement = t; place = inside_of l })
  child_is among among_is place t less is =
      ap (λ z. option_map put (slice_get (below z) place)) (statement_is scoping n s l number here) ∙ ap (λ ts. option_map put (slice_get ts place)) (sym among_is)
      ∙ ap (option_map put) (slice_get-get_or among place t less ∙ ap Some (sym is))
    where
      put : Statement → Located
      put t = record { statement = t; place = inside_of l }

  pub fault_inside : (among : List Statement) → among ≡ below s → (place m : ℕ) (t : Statement) (fault : Fault) → is_closed (kind s) ≡ false → place < length among → t ≡ get_or among place t →
      slice_get scoping.located m ≡ option_and_then (child place) (slice_get scoping.located n) →
      Judges scoping meanings m (Some fault) → BreaksType on scoping.texts l fault
  fault_inside among among_is place m t fault is_open less is at judged =
      let one = child_is among among_is place t less is in
      let h = judged on are (record { statement = t; place = inside_of l }) (at ∙ ap (option_and_then (child place)) here ∙ one) in
      record {
        statement = h.statement;
        stands = inside l (record { statement = t; place = inside_of l }) h.statement place (ap (λ z. is_closed (kind z)) (statement_is scoping n s l number here) ∙ is_open) one h.stands;
        breaks = h.breaks;
      }

  pub faultless_step : (place m : ℕ) →
      slice_get scoping.located m ≡ option_and_then (child place) (slice_get scoping.located n) →
      Judges scoping meanings m None →
      ((i : ℕ) (c : Located) (fault : Fault) → i < place → child i l ≡ Some c → BreaksType on scoping.texts c fault → ⊥) →
      (i : ℕ) (c : Located) (fault : Fault) → i < place + 1 → child i l ≡ Some c → BreaksType on scoping.texts c fault → ⊥
  faultless_step place m at judged before i c fault lt one h = by (cases_lt i place)
    where
      by : (i < place) ⊎ (place ≤ i) → ⊥
      by (inl earlier) = before i c fault earlier one h
      by (inr now) =
          let same : i ≡ place = omega arith in
          judged on are c (at ∙ ap (option_and_then (child place)) here ∙ ap (λ z. child z l) (sym same) ∙ one) fault h

-- what is wrong with the statement of a number by itself
module _ (scoping : Scoping) (meanings : Meanings) (n : ℕ) where
  -- by a default in it, or by one that it takes over
  pub given_beside : (beside : Option Fault) → JudgesDefaults scoping meanings n beside → is_some beside ≡ true → JudgesGiven scoping meanings n beside
  given_beside None judged some = absurd (cc)
  given_beside (Some fault) judged some = λ on are l here. inl (judged on are l here)

  pub given_over : {E : Type 0} (beside : Option Fault) (result : Result (Option Fault) E) → JudgesDefaults scoping meanings n beside → is_some beside ≡ false → IfOk result (JudgesTaken scoping meanings n) → IfOk result (JudgesGiven scoping meanings n)
  given_over (Some fault) result judged none over = absurd (cc)
  given_over None (Err fault) judged none over = tt
  given_over None (Ok None) judged none over = λ on are l here fault h. elim h [ inl d ↦ judged on are l here fault d | inr t ↦ over on are l here fault t ]
  given_over None (Ok (Some fault)) judged none over = λ on are l here. inr (over on are l here)

  -- by its parts, or by these
  pub one_plain : (plain : Option Fault) → JudgesPlain scoping meanings n plain → is_some plain ≡ true → JudgesOne scoping meanings n plain
  one_plain None judged some = absurd (cc)
  one_plain (Some fault) judged some = λ on are l here. elim (judged on are l here) [ inl b ↦ inl b | inr r ↦ inr (inl r) ]

  pub one_given : {E : Type 0} (plain : Option Fault) (result : Result (Option Fault) E) → JudgesPlain scoping meanings n plain → is_some plain ≡ false → IfOk result (JudgesGiven scoping meanings n) → IfOk result (JudgesOne scoping meanings n)
  one_given (Some fault) result judged none given = absurd (cc)
  one_given None (Err fault) judged none given = tt
  one_given None (Ok None) judged none given = λ on are l here fault h. elim h [
    | inl b ↦ judged on are l here fault (inl b)
    | inr more ↦ elim more [ inl r ↦ judged on are l here fault (inr r) | inr rest ↦ given on are l here fault rest ]
  ]
  one_given None (Ok (Some fault)) judged none given = λ on are l here. inr (inr (given on are l here))

-- a text's statement
pub none_in_text : (on : ℕ → List ℕ → Bool) (texts : List Statement) (text : ℕ) → None ≡ root texts text → (fault : Fault) → BreaksTypes on texts text fault → ⊥
none_in_text on texts text none fault h = let e : None ≡ Some h.top = none ∙ h.is in cc

pub text_judged : (scoping : Scoping) (meanings : Meanings) (n text : ℕ) (s : Statement) (result : Option Fault) → HasNumber scoping n s → slice_get scoping.located n ≡ root scoping.texts text → Judges scoping meanings n result →
    JudgesText scoping meanings text result
text_judged scoping meanings n text s result number is judged = λ on are. by on result (judged on are there.0 there.1)
  where
    there : (l : Located) × (slice_get scoping.located n ≡ Some l)
    there = at (slice_get scoping.located n) refl
      where
        at : (o : Option Located) → slice_get scoping.located n ≡ o → (l : Located) × (slice_get scoping.located n ≡ Some l)
        at None none = absurd (let e : None ≡ Some s = sym (ap (option_map (λ (l : Located). l.statement)) none) ∙ number in cc)
        at (Some l) here = (l, here)

    by : (on : ℕ → List ℕ → Bool) (r : Option Fault) → MatchOption r ((fault : Fault) → BreaksType on scoping.texts there.0 fault → ⊥) (BreaksType on scoping.texts there.0) →
        MatchOption r ((fault : Fault) → BreaksTypes on scoping.texts text fault → ⊥) (BreaksTypes on scoping.texts text)
    by on None keeps = λ fault h.
        let same : h.top ≡ there.0 = let e : Some h.top ≡ Some there.0 = sym h.is ∙ sym is ∙ there.1 in cc in
        keeps fault (subst (λ z. BreaksType on scoping.texts z fault) same h.breaks)
    by on (Some fault) breaks = record { top = there.0; is = sym is ∙ there.1; breaks = breaks }

pub text_told : {E : Type 0} (scoping : Scoping) (meanings : Meanings) (n text : ℕ) (s : Statement) (result : Result (Option Fault) E) → HasNumber scoping n s → slice_get scoping.located n ≡ root scoping.texts text →
    IfOk result (Judges scoping meanings n) → IfOk result (JudgesText scoping meanings text)
text_told scoping meanings n text s (Ok found) number is judged = text_judged scoping meanings n text s found number is judged
text_told scoping meanings n text s (Err fault) number is judged = tt

-- text after text
pub texts_more : (on : ℕ → List ℕ → Bool) (texts : List Statement) (text : ℕ) → ((fault : Fault) → BreaksTypes on texts text fault → ⊥) → ((before : ℕ) (fault : Fault) → before < text → BreaksTypes on texts before fault → ⊥) →
    (before : ℕ) (fault : Fault) → before < text + 1 → BreaksTypes on texts before fault → ⊥
texts_more on texts text keeps so_far before fault less h = by (cases_lt before text)
  where
    by : (before < text) ⊎ (text ≤ before) → ⊥
    by (inl earlier) = so_far before fault earlier h
    by (inr now) = let same : before ≡ text = omega arith in keeps fault (subst (λ t. BreaksTypes on texts t fault) same h)

pub texts_all : (on : ℕ → List ℕ → Bool) (texts : List Statement) (count : ℕ) → length texts ≤ count → ((before : ℕ) (fault : Fault) → before < count → BreaksTypes on texts before fault → ⊥) → KeepsTypes on texts
texts_all on texts count le so_far text fault h = by (cases_lt text count)
  where
    by : (text < count) ⊎ (count ≤ text) → ⊥
    by (inl earlier) = so_far text fault earlier h
    by (inr past) = none_in_text on texts text (root_past texts text (omega arith)) fault h
