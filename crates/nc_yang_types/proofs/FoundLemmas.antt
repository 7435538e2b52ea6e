-- What is found of one statement, from what the calls answer.
use Rattle.std.proofs.Common.{true, ◌≡◌, ◌<◌, ◌+◌, ℕ, zero, suc, List, [], ◌∷◌, ◌++◌, length, take, get_or, refl, sym, ap, ◌∙◌, subst, append_assoc, arith}
use Rattle.std.specs.Prelude.{Bool, Option, Some, None, Result, Ok, Err, IfOk, option_map, slice_get}
use Rattle.std.proofs.lemmas.List.{append-nil}
use Rattle.std.proofs.lemmas.Option.{slice_get-get_or}
use Rattle.nc_names.specs.declared.memory.Memory.{Memory}
use Rattle.nc_schema.specs.declared.value_type.Between.{Between}
use Rattle.nc_schema.specs.declared.value_type.ValueType.{ValueType}
use Rattle.nc_schema.specs.declared.value_type.ValueType.TheVariants.{Chars as String, Instance}
use Rattle.nc_yang_words.specs.declared.statement.Statement.{Statement}
use Rattle.nc_yang_statements.specs.declared.built_in.BuiltIn.{BuiltIn}
use Rattle.nc_yang_statements.specs.declared.built_in.BuiltIn.TheVariants.{IdentityRef, LeafRef, Union}
use Rattle.nc_yang_statements.specs.declared.keyword.Keyword.TheVariants.{Pattern}
use Rattle.nc_yang_statements.specs.declared.fault.Fault.{Fault}
use Rattle.nc_yang_statements.specs.Rules.{first}
use Rattle.nc_yang_statements.specs.Statements.{below}
use Rattle.nc_yang_order.specs.Orders.{EachAfter}
use Rattle.nc_yang_order.proofs.Lists.{take_next}
use Rattle.nc_yang_scopes.specs.Scopes.{Located, Scoping}
use Rattle.nc_yang_scopes.specs.inner.Naming.{HasNumber}
use Rattle.nc_yang_types.specs.Entries.{own, own_faults}
use Rattle.nc_yang_types.specs.declared.member.Named.{Named}
use Rattle.nc_yang_statements.specs.Stops.{OnBroken}
use Rattle.nc_yang_statements.specs.declared.stop.Stop.{Stop}
use Rattle.nc_yang_statements.specs.declared.stop.Stop.TheVariants.{Broken as BrokenType}
use Rattle.nc_yang_types.specs.Features.{stands}
use Rattle.nc_yang_types.specs.Meanings.{DerivedFrom, Entry, Meaning, OneOf, Refers, in_text, meant, of_access, said}
use Rattle.nc_yang_types.specs.Numbers.{AreNumbers, OnNumber}
use Rattle.nc_yang_types.specs.Places.{built_in, parts_of}
use Rattle.nc_yang_types.specs.inner.Footings.{AreFootings, IsFooting}
use Rattle.nc_yang_types.specs.inner.Planning.{ArePlan, AreSoFar, HasBase, IsFound, IsOverBase, IsReady, StandsInText, Steps, footing_at, meant_with, plan_of_access, planned_in}
use Rattle.nc_yang_types.specs.declared.footing.Footing.{Footing}
use Rattle.nc_yang_types.specs.declared.footing.Footing.TheVariants.{OnNothing, OnType}
use Rattle.nc_yang_types.specs.declared.found.Found.{Found}
use Rattle.nc_yang_types.specs.declared.found.Found.TheVariants.{New, Same}
use Rattle.nc_yang_types.specs.declared.planned.Finding.TheVariants.{Broken, Nothing}
use Rattle.nc_yang_types.specs.declared.planned.Meanings.{Meanings}
use Rattle.nc_yang_types.specs.declared.planned.Planned.{Planned}
use Rattle.nc_yang_types.specs.declared.planned.Planned.TheVariants.{Bases, Finished, Leafref, Members}
use Rattle.nc_yang_types.specs.Plans.{IsPlan}
use Rattle.nc_yang_types.proofs.MeaningLemmas.{itself_broken, itself_nothing, itself_plan, on_nothing, over_number}
use Rattle.nc_yang_scopes.proofs.PartLemmas.{statement_is}
use Rattle.nc_yang_types.proofs.TableLemmas.{base_known, footing_is, ready_within, step_more}

said_is : (on : ℕ → List ℕ → Bool) (one : BuiltIn) (l : Located) → said on one l ≡ meant_with (own (stands on l.place.text) one (below l.statement)) one l
said_is on Union l = refl
said_is on IdentityRef l = refl
said_is on LeafRef l = refl
said_is on one l = refl

-- what is planned in a text is of what is meant there
access_is : (located : List Located) (entry : ValueType) (ns : List ℕ) (ps : List Located) (names : List Named) → AreNumbers located ns ps → IsPlan located (plan_of_access entry ns names) (of_access entry ps names)
access_is located (Instance need) ns ps names are = (refl, are, refl)
access_is located (String among starless none) [] [] names are = (refl, are, refl)
access_is located (String among starless none) [] (p ∷ ps) names are = absurd (cc)
access_is located (String among starless none) (n ∷ ns) [] names are = absurd (cc)
access_is located (String among starless none) (n ∷ ns) (p ∷ ps) names are = (refl, refl, refl)
access_is located entry ns ps names are = (refl, are, refl)

-- a string with patterns, and one without
pub plan_of_some : (among : List Between) (starless : Bool) (none ns : List ℕ) (names : List Named) → (ns ≡ [] → ⊥) →
    Finished (String among true none) [] names ≡ plan_of_access (String among starless none) ns names
plan_of_some among starless none [] names h = absurd (h refl)
plan_of_some among starless none (n ∷ ns) names h = refl

pub plan_of_none : (among : List Between) (starless : Bool) (none ns : List ℕ) (names : List Named) → ns ≡ [] →
    Finished (String among starless none) ns names ≡ plan_of_access (String among starless none) ns names
plan_of_none among starless none [] names h = refl
plan_of_none among starless none (n ∷ ns) names h = absurd (cc)

plan_in : (located : List Located) (text : ℕ) (planned : Planned) (m : Meaning) → IsPlan located planned m → IsPlan located (planned_in text planned) (in_text text m)
plan_in located (suc text) planned m is = is
plan_in located zero (Finished entry ns names) (Entry other ps others) is =
    subst (λ z. IsPlan located (plan_of_access entry ns names) (of_access other ps z)) is.2
    (subst (λ z. IsPlan located (plan_of_access entry ns names) (of_access z ps names)) is.0 (access_is located entry ns ps names is.1))
plan_in located zero (Finished entry ns names) (OneOf ls) is = absurd is
plan_in located zero (Finished entry ns names) (DerivedFrom ls) is = absurd is
plan_in located zero (Finished entry ns names) (Refers path need) is = absurd is
plan_in located zero (Members ns) (Entry other ps others) is = absurd is
plan_in located zero (Members ns) (OneOf ls) is = is
plan_in located zero (Members ns) (DerivedFrom ls) is = absurd is
plan_in located zero (Members ns) (Refers path need) is = absurd is
plan_in located zero (Bases ns) (Entry other ps others) is = absurd is
plan_in located zero (Bases ns) (OneOf ls) is = absurd is
plan_in located zero (Bases ns) (DerivedFrom ls) is = is
plan_in located zero (Bases ns) (Refers path need) is = absurd is
plan_in located zero (Leafref n b) (Entry other ps others) is = absurd is
plan_in located zero (Leafref n b) (OneOf ls) is = absurd is
plan_in located zero (Leafref n b) (DerivedFrom ls) is = absurd is
plan_in located zero (Leafref n b) (Refers path need) is = is

plans_in : (located : List Located) (text : ℕ) (o : Option Planned) (m : Option Meaning) → ArePlan located o m → ArePlan located (option_map (planned_in text) o) (option_map (in_text text) m)
plans_in located text None None are = tt
plans_in located text None (Some m) are = absurd are
plans_in located text (Some planned) None are = absurd are
plans_in located text (Some planned) (Some m) are = plan_in located text planned m are

module _ (scoping : Scoping) (n : ℕ) (s : Statement) (number : HasNumber scoping n s) where
  -- its text is that of the number
  its_text : (text : ℕ) → StandsInText scoping n text → (l : Located) → slice_get scoping.located n ≡ Some l → l.place.text ≡ text
  its_text text stands_there l here = let e : Some l.place.text ≡ Some text = sym (ap (option_map (λ (k : Located). k.place.text)) here) ∙ stands_there in cc

  pub plan_is : (text : ℕ) → StandsInText scoping n text → (on : ℕ → List ℕ → Bool) (one : BuiltIn) (entry : Option ValueType) (it planned : Option Planned) → own (stands on text) one (below s) ≡ entry →
      OnNumber scoping n (λ l. ArePlan scoping.located it (meant_with entry one l)) → planned ≡ option_map (planned_in text) it →
      OnNumber scoping n (λ l. ArePlan scoping.located planned (meant on one l))
  plan_is text stands_there on one entry it planned is plan moved = λ l here.
      let same = statement_is scoping n s l number here in
      let text_is : l.place.text ≡ text = its_text text stands_there l here in
      let entry_is : entry ≡ own (stands on l.place.text) one (below l.statement) = sym (ap (λ t. own (stands on t) one (below l.statement)) text_is ∙ ap (λ z. own (stands on text) one (below z)) same ∙ is) in
      let as_said = subst (ArePlan scoping.located it) (ap (λ e. meant_with e one l) entry_is ∙ sym (said_is on one l)) (plan l here) in
      subst (λ z. ArePlan scoping.located z (meant on one l)) (sym (moved ∙ ap (λ t. option_map (planned_in t) it) (sym text_is)))
      (plans_in scoping.located l.place.text it (said on one l) as_said)

  module _ (on : ℕ → List ℕ → Bool) (l : Located) (here : slice_get scoping.located n ≡ Some l) (one : BuiltIn) (built : built_in l ≡ Some one) (plans : List Planned) where
    pub found_plan : (field : Option Planned) (planned : Planned) → field ≡ Some planned → own_faults one s ≡ [] → ArePlan scoping.located field (meant on one l) → IsFound on scoping plans l (New planned)
    found_plan field planned field_is kept ok =
        itself_plan on scoping l one built plans planned (subst (λ z. own_faults one z ≡ []) (sym (statement_is scoping n s l number here)) kept) (subst (λ z. ArePlan scoping.located z (meant on one l)) field_is ok)

    pub found_nothing : (field : Option Planned) → field ≡ None → own_faults one s ≡ [] → ArePlan scoping.located field (meant on one l) → IsFound on scoping plans l (Same Nothing)
    found_nothing field field_is kept ok =
        itself_nothing on scoping l one built plans (subst (λ z. own_faults one z ≡ []) (sym (statement_is scoping n s l number here)) kept) (subst (λ z. ArePlan scoping.located z (meant on one l)) field_is ok)

    pub found_broken : (field : Stop Fault) (fault : Fault) → field ≡ BrokenType fault → OnBroken (λ (f : Fault). first (own_faults one s) ≡ Some f) field → IsFound on scoping plans l (Same (Broken fault))
    found_broken field fault field_is is =
        itself_broken on scoping l one built plans fault
        (subst (λ z. first (own_faults one z) ≡ Some fault) (sym (statement_is scoping n s l number here)) (subst (λ z. OnBroken (λ (f : Fault). first (own_faults one s) ≡ Some f) z) field_is is))

  -- of a type over another
  pub look_type : (text : ℕ) → StandsInText scoping n text → (on : ℕ → List ℕ → Bool) (meanings : Meanings) (base : ℕ) (footing : Footing) → footing ≡ OnType base → (own : List ℕ) →
      OnNumber scoping n (λ l. AreNumbers scoping.located own (parts_of Pattern l)) → (ss : List Statement) → ss ≡ below s → (r : Result Found Memory) → IfOk r (IsOverBase (stands on text) meanings base own ss) →
      IfOk r (λ it. OnNumber scoping n (λ l. IsFooting scoping l footing → HasBase on scoping meanings footing → IsFound on scoping meanings.plans l it))
  look_type text stands_there on meanings base footing is own are ss ss_is (Err e) h = tt
  look_type text stands_there on meanings base footing is own are ss ss_is (Ok it) h = λ l here foot has.
      let f = subst (IsFooting scoping l) is foot in
      let same = statement_is scoping n s l number here in
      over_number on scoping l f.1.0 f.1.2 own (are l here) meanings base it
      (subst (λ t. IsOverBase (stands on t) meanings base own (below l.statement) it) (sym (its_text text stands_there l here))
      (subst (λ z. IsOverBase (stands on text) meanings base own z it) (ss_is ∙ ap below (sym same)) h))
      (subst (HasBase on scoping meanings) is has f.1.0 f.1.1)

pub look_nothing : (on : ℕ → List ℕ → Bool) (scoping : Scoping) (meanings : Meanings) (n : ℕ) (footing : Footing) → footing ≡ OnNothing →
    OnNumber scoping n (λ l. IsFooting scoping l footing → HasBase on scoping meanings footing → IsFound on scoping meanings.plans l (Same Nothing))
look_nothing on scoping meanings n footing is = λ l here foot has. let f = subst (IsFooting scoping l) is foot in on_nothing on scoping meanings.plans l f.0 f.1

-- the element of a place, with those before it
pub each_at : {A : Type 0} (P : List A → A → Type 0) (before xs : List A) (i : ℕ) (x : A) → EachAfter P before xs → slice_get xs i ≡ Some x → P (before ++ take i xs) x
each_at P before [] i x h e = absurd (cc)
each_at P before (y ∷ xs) zero x h e = let same : y ≡ x = cc in subst (λ z. P z x) (sym (append-nil before)) (subst (P before) same h.0)
each_at P before (y ∷ xs) (suc i) x h e = subst (λ z. P z x) (append_assoc before (y ∷ []) (take i xs)) (each_at P (before ++ y ∷ []) xs i x h.1 e)

module _ (footings : List Footing) (order : List ℕ) (ready : EachAfter (IsReady footings) [] order) (i number : ℕ) (less : i < length order) (is : number ≡ get_or order i 0) where
  at_place : slice_get order i ≡ Some number
  at_place = slice_get-get_or order i 0 less ∙ ap Some (sym is)

  ready_here : IsReady footings (take i order) number
  ready_here = each_at (IsReady footings) [] order i number ready at_place

  pub step_within : (scoping : Scoping) (meanings : Meanings) (on : ℕ → List ℕ → Bool) → AreFootings scoping (length scoping.located) footings → AreSoFar on scoping (take i order) meanings → number < length meanings.findings
  step_within scoping meanings on are so_far = let w = ready_within footings (take i order) number ready_here in omega (arith, are.counted, so_far.counted)

  pub step_on : (scoping : Scoping) (old new : Meanings) (on : ℕ → List ℕ → Bool) (footing : Footing) → AreFootings scoping (length scoping.located) footings → AreSoFar on scoping (take i order) old → footing ≡ footing_at footings number →
      Steps on scoping footing number old new → AreSoFar on scoping (take (i + 1) order) new
  step_on scoping old new on footing are so_far footing_at_is steps =
      subst (λ z. AreSoFar on scoping z new) (sym (take_next order i number at_place))
      (step_more on scoping (take i order) number old so_far (step_within scoping old on are so_far) steps.found new steps.is
      (λ l here. steps.judged l here (subst (IsFooting scoping l) (sym footing_at_is) (footing_is scoping footings are number l here))
      (subst (HasBase on scoping old) (sym footing_at_is) (base_known on scoping footings (take i order) number old so_far ready_here))))
