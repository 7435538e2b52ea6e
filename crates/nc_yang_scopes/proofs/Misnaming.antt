-- The rules on names over all statements.
use Rattle.std.proofs.Common.{inl, inr, ◌≡◌, ◌<◌, ◌≤◌, ◌+◌, ◌++◌, ◌⊎◌, ℕ, true, false, List, length, get_or, refl, sym, ap, subst, ◌∙◌, arith}
use Rattle.std.specs.Prelude.{Option, Some, None, slice_get, option_map, option_and_then, is_some, IsSome, Contains, MatchOption}
use Rattle.std.proofs.lemmas.Bool.{cases_lt}
use Rattle.std.proofs.lemmas.Option.{slice_get-get_or}
use Rattle.nc_yang_words.specs.declared.statement.Statement.{Statement}
use Rattle.nc_yang_statements.specs.declared.fault.Fault.{Fault}
use Rattle.nc_yang_statements.specs.declared.fault.ModuleWhy.TheVariants.{Twice, UnknownName}
use Rattle.nc_yang_statements.specs.declared.keyword.Keyword.{Keyword}
use Rattle.nc_yang_statements.specs.declared.keyword.Keyword.TheVariants.{Base, Grouping, IfFeature, Import, TypeName, Typedef, Uses}
use Rattle.nc_yang_statements.specs.Keywords.{is_closed}
use Rattle.nc_yang_statements.specs.Statements.{below, kind}
use Rattle.nc_yang_statements.specs.Rules.{at_if, first}
use Rattle.nc_yang_statements.proofs.Firsts.{first_contains, first_lacks}
use Rattle.nc_yang_scopes.specs.Scopes.{Located, Scoping, child, inside as inside_of, root}
use Rattle.nc_yang_scopes.specs.Names.{BreaksNames, KeepsNames, Misnames, StandsIn, inside, is_foreign, is_nameless, is_shadowing, itself, misnamed}
use Rattle.nc_yang_scopes.specs.inner.Naming.{HasNumber, Judges, misnamed_at, nameless_at, shadowing_at}
use Rattle.nc_yang_scopes.proofs.Lists.{get_within}
use Rattle.nc_yang_scopes.proofs.BookLemmas.{root_past}

same_nameless : (texts : List Statement) (l : Located) (k : Keyword) → nameless_at texts (Some l) k l.statement ≡ is_nameless texts l.place k l.statement
same_nameless texts l Uses = refl
same_nameless texts l TypeName = refl
same_nameless texts l Base = refl
same_nameless texts l IfFeature = refl
same_nameless texts l Import = refl
same_nameless texts l k = refl

same_shadowing : (l : Located) (k : Keyword) → shadowing_at (Some l) k l.statement ≡ is_shadowing l.place k l.statement
same_shadowing l Typedef = refl
same_shadowing l Grouping = refl
same_shadowing l k = refl

module _ (scoping : Scoping) (n : ℕ) (s : Statement) (l : Located) (number : HasNumber scoping n s) (here : slice_get scoping.located n ≡ Some l) where
  pub statement_is : l.statement ≡ s
  statement_is = let e : Some l.statement ≡ Some s = sym (ap (option_map (λ (k : Located). k.statement)) here) ∙ number in cc

  same_faults : misnamed_at scoping.texts (slice_get scoping.located n) s ≡ misnamed scoping.texts l
  same_faults =
      ap (λ o. misnamed_at scoping.texts o s) here
      ∙ ap (misnamed_at scoping.texts (Some l)) (sym statement_is)
      ∙ ap (λ b. at_if b l.statement UnknownName ++ (at_if (is_foreign scoping.texts l.place l.statement) l.statement UnknownName ++ at_if (shadowing_at (Some l) (kind l.statement) l.statement) l.statement Twice))
      (same_nameless scoping.texts l (kind l.statement))
      ∙ ap (λ b. at_if (is_nameless scoping.texts l.place (kind l.statement) l.statement) l.statement UnknownName ++ (at_if (is_foreign scoping.texts l.place l.statement) l.statement UnknownName ++ at_if b l.statement Twice))
      (same_shadowing l (kind l.statement))

  pub fault_here : (fault : Fault) → Some fault ≡ first (misnamed_at scoping.texts (slice_get scoping.located n) s) → Misnames scoping.texts l fault
  fault_here fault e = record { statement = l; stands = itself l; breaks = first_contains (misnamed scoping.texts l) fault (sym (e ∙ ap first same_faults)) }

  -- a statement by itself and those in it
  either : (u : Located) (fault : Fault) → None ≡ first (misnamed_at scoping.texts (slice_get scoping.located n) s) →
      ((c : Located) (place : ℕ) → is_closed (kind l.statement) ≡ false → child place l ≡ Some c → StandsIn c u → ⊥) → StandsIn l u → Contains (misnamed scoping.texts u) fault → ⊥
  either u fault none none_in stands breaks = by l refl stands breaks
    where
      by : (k : Located) → k ≡ l → StandsIn k u → Contains (misnamed scoping.texts u) fault → ⊥
      by k same (itself j) b = first_lacks (misnamed scoping.texts l) fault (sym (none ∙ ap first same_faults)) (subst (λ z. Contains (misnamed scoping.texts z) fault) same b)
      by k same (inside j c i place is_open one d) b = none_in c place (subst (λ (z : Located). is_closed (kind z.statement) ≡ false) same is_open) (subst (λ z. child place z ≡ Some c) same one) d

  pub faultless_closed : (fault : Fault) → None ≡ first (misnamed_at scoping.texts (slice_get scoping.located n) s) → is_closed (kind s) ≡ true → Misnames scoping.texts l fault → ⊥
  faultless_closed fault none shut h =
      either h.statement fault none
      (λ c place is_open one d. let e : is_closed (kind l.statement) ≡ true = ap (λ z. is_closed (kind z)) statement_is ∙ shut in cc (e, is_open)) h.stands h.breaks

  pub faultless_all : (among : List Statement) → among ≡ below s → (count : ℕ) (fault : Fault) → None ≡ first (misnamed_at scoping.texts (slice_get scoping.located n) s) → length among ≤ count →
      ((i : ℕ) (c : Located) (fault : Fault) → i < count → child i l ≡ Some c → Misnames scoping.texts c fault → ⊥) → Misnames scoping.texts l fault → ⊥
  faultless_all among among_is count fault none le none_in h =
      either h.statement fault none
      (λ c place is_open one d. none_in place c fault (let less : place < length (below l.statement) = child_within place c one in let e = ap (λ z. length (below z)) statement_is in let f = ap length among_is in omega arith) one (record { statement = h.statement; stands = d; breaks = h.breaks })) h.stands h.breaks
    where
      child_within : (place : ℕ) (c : Located) → child place l ≡ Some c → place < length (below l.statement)
      child_within place c one = by (slice_get (below l.statement) place) refl one
        where
          put : Statement → Located
          put t = record { statement = t; place = inside_of l }

          by : (o : Option Statement) → slice_get (below l.statement) place ≡ o → option_map put o ≡ Some c → place < length (below l.statement)
          by None none e = absurd (cc)
          by (Some t) there e = get_within (below l.statement) place t there

  -- a child of it
  pub child_is : (among : List Statement) → among ≡ below s → (place : ℕ) (t : Statement) → place < length among → t ≡ get_or among place t → child place l ≡ Some (record { statement = t; place = inside_of l })
  child_is among among_is place t less is =
      ap (λ z. option_map put (slice_get (below z) place)) statement_is ∙ ap (λ ts. option_map put (slice_get ts place)) (sym among_is)
      ∙ ap (option_map put) (slice_get-get_or among place t less ∙ ap Some (sym is))
    where
      put : Statement → Located
      put t = record { statement = t; place = inside_of l }

  pub fault_inside : (among : List Statement) → among ≡ below s → (place m : ℕ) (t : Statement) (fault : Fault) → is_closed (kind s) ≡ false → place < length among → t ≡ get_or among place t →
      slice_get scoping.located m ≡ option_and_then (child place) (slice_get scoping.located n) →
      ((c : Located) → slice_get scoping.located m ≡ Some c → Misnames scoping.texts c fault) → Misnames scoping.texts l fault
  fault_inside among among_is place m t fault is_open less is at judged =
      let one = child_is among among_is place t less is in
      let h = judged (record { statement = t; place = inside_of l }) (at ∙ ap (option_and_then (child place)) here ∙ one) in
      record {
        statement = h.statement;
        stands = inside l (record { statement = t; place = inside_of l }) h.statement place (ap (λ z. is_closed (kind z)) statement_is ∙ is_open) one h.stands;
        breaks = h.breaks;
      }

  pub faultless_step : (place m : ℕ) →
      slice_get scoping.located m ≡ option_and_then (child place) (slice_get scoping.located n) →
      ((c : Located) → slice_get scoping.located m ≡ Some c → (fault : Fault) → Misnames scoping.texts c fault → ⊥) →
      ((i : ℕ) (c : Located) (fault : Fault) → i < place → child i l ≡ Some c → Misnames scoping.texts c fault → ⊥) →
      (i : ℕ) (c : Located) (fault : Fault) → i < place + 1 → child i l ≡ Some c → Misnames scoping.texts c fault → ⊥
  faultless_step place m at judged before i c fault lt one h = by (cases_lt i place)
    where
      by : (i < place) ⊎ (place ≤ i) → ⊥
      by (inl earlier) = before i c fault earlier one h
      by (inr now) =
          let same : i ≡ place = omega arith in
          judged c (at ∙ ap (option_and_then (child place)) here ∙ ap (λ z. child z l) (sym same) ∙ one) fault h

-- the number of a child
module _ (scoping : Scoping) (n : ℕ) (s : Statement) (number : HasNumber scoping n s) where
  pub located_there : (l : Located) × (slice_get scoping.located n ≡ Some l)
  located_there = by (slice_get scoping.located n) refl
    where
      by : (o : Option Located) → slice_get scoping.located n ≡ o → (l : Located) × (slice_get scoping.located n ≡ Some l)
      by None none = absurd (let e : None ≡ Some s = sym (ap (option_map (λ (l : Located). l.statement)) none) ∙ number in cc)
      by (Some l) here = (l, here)

  pub child_there : (among : List Statement) → among ≡ below s → (place : ℕ) (t : Statement) → place < length among → t ≡ get_or among place t → IsSome (option_and_then (child place) (slice_get scoping.located n))
  child_there among among_is place t less is =
      let l = located_there.0 in
      let here = located_there.1 in
      ap (λ o. is_some (option_and_then (child place) o)) here ∙ ap is_some (child_is scoping n s l number here among among_is place t less is)

  pub child_number : (among : List Statement) → among ≡ below s → (place m : ℕ) (t : Statement) → place < length among → t ≡ get_or among place t → slice_get scoping.located m ≡ option_and_then (child place) (slice_get scoping.located n) → HasNumber scoping m t
  child_number among among_is place m t less is at =
      let l = located_there.0 in
      let here = located_there.1 in
      ap (option_map (λ (l : Located). l.statement)) (at ∙ ap (option_and_then (child place)) here ∙ child_is scoping n s l number here among among_is place t less is)

-- a text's statement
pub none_in_text : (texts : List Statement) (text : ℕ) → None ≡ root texts text → (fault : Fault) → BreaksNames texts text fault → ⊥
none_in_text texts text none fault h = let e : None ≡ Some h.top = none ∙ h.is in cc

pub text_judged : (scoping : Scoping) (n text : ℕ) (s : Statement) (result : Option Fault) → HasNumber scoping n s → slice_get scoping.located n ≡ root scoping.texts text → Judges scoping n result →
    MatchOption result ((fault : Fault) → BreaksNames scoping.texts text fault → ⊥) (BreaksNames scoping.texts text)
text_judged scoping n text s result number is judged = by result (judged there.0 there.1)
  where
    there : (l : Located) × (slice_get scoping.located n ≡ Some l)
    there = located_there scoping n s number

    by : (r : Option Fault) → MatchOption r ((fault : Fault) → Misnames scoping.texts there.0 fault → ⊥) (Misnames scoping.texts there.0) →
        MatchOption r ((fault : Fault) → BreaksNames scoping.texts text fault → ⊥) (BreaksNames scoping.texts text)
    by None keeps = λ fault h.
        let same : h.top ≡ there.0 = let e : Some h.top ≡ Some there.0 = sym h.is ∙ sym is ∙ there.1 in cc in
        keeps fault (subst (λ z. Misnames scoping.texts z fault) same h.misnames)
    by (Some fault) breaks = record { top = there.0; is = sym is ∙ there.1; misnames = breaks }

-- text after text
pub texts_more : (texts : List Statement) (text : ℕ) → ((fault : Fault) → BreaksNames texts text fault → ⊥) → ((before : ℕ) (fault : Fault) → before < text → BreaksNames texts before fault → ⊥) →
    (before : ℕ) (fault : Fault) → before < text + 1 → BreaksNames texts before fault → ⊥
texts_more texts text keeps so_far before fault less h = by (cases_lt before text)
  where
    by : (before < text) ⊎ (text ≤ before) → ⊥
    by (inl earlier) = so_far before fault earlier h
    by (inr now) = let same : before ≡ text = omega arith in keeps fault (subst (λ t. BreaksNames texts t fault) same h)

pub texts_all : (texts : List Statement) (count : ℕ) → length texts ≤ count → ((before : ℕ) (fault : Fault) → before < count → BreaksNames texts before fault → ⊥) → KeepsNames texts
texts_all texts count le so_far text fault h = by (cases_lt text count)
  where
    by : (text < count) ⊎ (count ≤ text) → ⊥
    by (inl earlier) = so_far text fault earlier h
    by (inr past) = none_in_text texts text (root_past texts text (omega arith)) fault h
