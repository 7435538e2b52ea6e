-- The table of meanings, number after number.
use Rattle.std.proofs.Common.{inl, inr, ◌≡◌, ◌≢◌, ◌<◌, ◌+◌, ℕ, true, false, List, [], ◌∷◌, ◌++◌, length, refl, sym, ap, ◌∙◌, subst, arith}
use Rattle.nc_names.specs.declared.memory.Memory.{Memory}
use Rattle.std.specs.Prelude.{Bool, Option, Some, None, Result, Ok, Err, IfOk, IsSomeAnd, unwrap_or, slice_get, set, Contains}
use Rattle.std.proofs.lemmas.Bool.{cases_eq}
use Rattle.std.proofs.lemmas.List.{append-nil, length-set}
use Rattle.std.proofs.lemmas.List.Elements.{Contains-append_left, Contains-push}
use Rattle.std.proofs.lemmas.Option.{slice_get_within}
use Rattle.nc_yang_statements.specs.declared.built_in.BuiltIn.{BuiltIn}
use Rattle.nc_yang_statements.specs.declared.fault.Fault.{Fault}
use Rattle.nc_yang_order.specs.Orders.{EachAfter}
use Rattle.nc_yang_order.proofs.Lists.{either, get_none, get_set_other, get_set_same}
use Rattle.nc_yang_scopes.specs.Scopes.{Located, Scoping}
use Rattle.nc_yang_scopes.proofs.Lists.{get_left, get_right}
use Rattle.nc_yang_types.specs.Meanings.{Breaks, Meaning, Means, by_itself, over}
use Rattle.nc_yang_types.specs.Places.{base_of, built_in}
use Rattle.nc_yang_types.specs.Plans.{AreMeanings, IsFinding}
use Rattle.nc_yang_types.specs.inner.Footings.{AreDependents, AreFootings, AreStarts, IsFooting}
use Rattle.nc_yang_types.specs.inner.Planning.{AreSoFar, HasBase, IsFound, IsOrdered, IsReady, footing_at, with_found}
use Rattle.nc_yang_order.specs.Reaching.{IsLed, IsReached}
use Rattle.nc_yang_order.specs.declared.reach.Reach.{Reach}
use Rattle.nc_yang_types.specs.declared.footing.Footing.{Footing}
use Rattle.nc_yang_types.specs.declared.footing.Footing.TheVariants.{OnBuiltIn, OnNothing, OnType}
use Rattle.nc_yang_types.specs.declared.found.Found.{Found}
use Rattle.nc_yang_types.specs.declared.found.Found.TheVariants.{New, Same}
use Rattle.nc_yang_types.specs.declared.planned.Finding.{Finding}
use Rattle.nc_yang_types.specs.declared.planned.Finding.TheVariants.{Broken, Nothing, Plan}
use Rattle.nc_yang_types.specs.declared.planned.Meanings.{Meanings}
use Rattle.nc_yang_types.specs.declared.planned.Planned.{Planned}
use Rattle.nc_yang_types.proofs.MeaningLemmas.{built_or_base, how_breaks}

-- plans that are added change none that were there
more_plans : (on : ℕ → List ℕ → Bool) (scoping : Scoping) (plans more : List Planned) (l : Located) (finding : Finding) → IsFinding on scoping plans l finding → IsFinding on scoping (plans ++ more) l finding
more_plans on scoping plans more l Nothing h = h
more_plans on scoping plans more l (Broken fault) h = h
more_plans on scoping plans more l (Plan number) h = record {
  plan = h.plan;
  there = get_left plans more number (slice_get_within plans number h.plan h.there) ∙ h.there;
  meaning = h.meaning;
  is = h.is;
  means = h.means;
}

more_plans_some : (on : ℕ → List ℕ → Bool) (scoping : Scoping) (plans more : List Planned) (l : Located) (o : Option Finding) → IsSomeAnd o (IsFinding on scoping plans l) → IsSomeAnd o (IsFinding on scoping (plans ++ more) l)
more_plans_some on scoping plans more l None h = absurd h
more_plans_some on scoping plans more l (Some finding) h = more_plans on scoping plans more l finding h

-- what a step leaves as it was
pub record Keeps (old new : Meanings) (number : ℕ) : Type 0 where
  pub finding : Finding
  pub findings : new.findings ≡ set old.findings number finding
  pub more : List Planned
  pub plans : new.plans ≡ old.plans ++ more

keeps : (old : Meanings) (number : ℕ) (found : Found) → Keeps old (with_found old number found) number
keeps old number (Same finding) = record { finding = finding; findings = refl; more = []; plans = sym (append-nil old.plans) }
keeps old number (New planned) = record { finding = Plan (length old.plans); findings = refl; more = planned ∷ []; plans = refl }

module _ (on : ℕ → List ℕ → Bool) (scoping : Scoping) (before : List ℕ) (number : ℕ) (old : Meanings) (so_far : AreSoFar on scoping before old) (within : number < length old.findings) where
  there : (finding : Finding) × (slice_get old.findings number ≡ Some finding)
  there = by (slice_get old.findings number) refl
    where
      by : (o : Option Finding) → slice_get old.findings number ≡ o → (finding : Finding) × (slice_get old.findings number ≡ Some finding)
      by None e = absurd (let past = get_none old.findings number e in omega arith)
      by (Some finding) e = (finding, e)

  put : (found : Found) (l : Located) → IsFound on scoping old.plans l found → IsSomeAnd (slice_get (with_found old number found).findings number) (IsFinding on scoping (with_found old number found).plans l)
  put (Same finding) l h = subst (λ o. IsSomeAnd o (IsFinding on scoping old.plans l)) (sym (get_set_same old.findings number there.0 finding there.1)) h
  put (New planned) l h =
      subst (λ o. IsSomeAnd o (IsFinding on scoping (old.plans ++ planned ∷ []) l)) (sym (get_set_same old.findings number there.0 (Plan (length old.plans)) there.1))
      (record {
        plan = planned;
        there = (let e : length old.plans ≡ length old.plans + 0 = omega arith in ap (slice_get (old.plans ++ planned ∷ [])) e ∙ get_right old.plans (planned ∷ []) (length old.plans) 0 refl);
        meaning = h.0;
        is = h.1;
        means = h.2;
      })

  pub step_more : (found : Found) (new : Meanings) → new ≡ with_found old number found → ((l : Located) → slice_get scoping.located number ≡ Some l → IsFound on scoping old.plans l found) →
      AreSoFar on scoping (before ++ number ∷ []) new
  step_more found new new_is judged = subst (AreSoFar on scoping (before ++ number ∷ [])) (sym new_is) (record {
    counted = ap length k.findings ∙ length-set old.findings number k.finding ∙ so_far.counted;
    found = known;
    others = λ m l lacks here.
        let apart : m ≢ number = λ same. lacks (subst (λ z. Contains (before ++ number ∷ []) z) (sym same) (Contains-push before number)) in
        ap (λ z. slice_get z m) k.findings ∙ get_set_other old.findings number m k.finding apart ∙ so_far.others m l (λ h. lacks (Contains-append_left before (number ∷ []) m h)) here;
  })
    where
      k : Keeps old (with_found old number found) number
      k = keeps old number found

      known : (m : ℕ) (l : Located) → Contains (before ++ number ∷ []) m → slice_get scoping.located m ≡ Some l →
          IsSomeAnd (slice_get (with_found old number found).findings m) (IsFinding on scoping (with_found old number found).plans l)
      known m l h here = elim (cases_eq m number) [
        | inl same ↦
            subst (λ z. IsSomeAnd (slice_get (with_found old number found).findings z) (IsFinding on scoping (with_found old number found).plans l)) (sym same)
            (put found l (judged l (subst (λ z. slice_get scoping.located z ≡ Some l) same here)))
        | inr apart ↦ elim (either before number m h) [
          | inl earlier ↦
              subst (λ ps. IsSomeAnd (slice_get (with_found old number found).findings m) (IsFinding on scoping ps l)) (sym k.plans)
              (more_plans_some on scoping old.plans k.more l (slice_get (with_found old number found).findings m)
              (subst (λ o. IsSomeAnd o (IsFinding on scoping old.plans l)) (sym (ap (λ z. slice_get z m) k.findings ∙ get_set_other old.findings number m k.finding apart))
              (so_far.found m l earlier here)))
          | inr now ↦ absurd (apart (sym now))
        ]
      ]

-- the base of a type that is ready is known
pub base_known : (on : ℕ → List ℕ → Bool) (scoping : Scoping) (footings : List Footing) (before : List ℕ) (number : ℕ) (old : Meanings) → AreSoFar on scoping before old → IsReady footings before number →
    HasBase on scoping old (footing_at footings number)
base_known on scoping footings before number old so_far (inl (one, e)) = subst (HasBase on scoping old) (sym (ap (λ o. unwrap_or o OnNothing) e)) tt
base_known on scoping footings before number old so_far (inr (base, e, h)) = subst (HasBase on scoping old) (sym (ap (λ o. unwrap_or o OnNothing) e)) (λ l here. so_far.found base l h here)

pub footing_is : (scoping : Scoping) (footings : List Footing) → AreFootings scoping (length scoping.located) footings → (number : ℕ) (l : Located) → slice_get scoping.located number ≡ Some l → IsFooting scoping l (footing_at footings number)
footing_is scoping footings are number l here = by (slice_get footings number) (are.each number l (slice_get_within scoping.located number l here) here)
  where
    by : (o : Option Footing) → IsSomeAnd o (IsFooting scoping l) → IsFooting scoping l (unwrap_or o OnNothing)
    by None h = absurd h
    by (Some footing) h = h

pub ready_within : (footings : List Footing) (before : List ℕ) (number : ℕ) → IsReady footings before number → number < length footings
ready_within footings before number (inl (one, e)) = slice_get_within footings number (OnBuiltIn one) e
ready_within footings before number (inr (base, e, h)) = slice_get_within footings number (OnType base) e

-- what was found in the order of reach is ready in it
each_weaker : {A : Type 0} (P Q : List A → A → Type 0) → ((before : List A) (x : A) → P before x → Q before x) → (before xs : List A) → EachAfter P before xs → EachAfter Q before xs
each_weaker P Q weaker before [] h = tt
each_weaker P Q weaker before (x ∷ xs) h = (weaker before x h.0, each_weaker P Q weaker (before ++ x ∷ []) xs h.1)

module _ (footings : List Footing) (graph : List (List ℕ)) (starts : List ℕ) (dependents : AreDependents footings (length footings) graph) (are_starts : AreStarts footings (length footings) starts) where
  pub reached_ready : (found : List ℕ) → EachAfter (IsLed graph starts) [] found → EachAfter (IsReady footings) [] found
  reached_ready found led = each_weaker (IsLed graph starts) (IsReady footings) ready [] found led
    where
      ready : (before : List ℕ) (number : ℕ) → IsLed graph starts before number → IsReady footings before number
      ready before number (inl start) = inl (are_starts.rests number start)
      ready before number (inr (from, h, edge)) = inr (from, dependents.rests from number edge, h)

  module _ (on : ℕ → List ℕ → Bool) (scoping : Scoping) (are : AreFootings scoping (length scoping.located) footings) (reach : Reach) (reached : IsReached graph starts reach) where
    in_graph : (number : ℕ) (l : Located) → slice_get scoping.located number ≡ Some l → number < length graph
    in_graph number l here = let less = slice_get_within scoping.located number l here in omega (arith, are.counted, dependents.counted)

    on_base : (number : ℕ) (l : Located) → slice_get scoping.located number ≡ Some l → (base : Located) → base_of scoping.texts l ≡ Some base →
        ((k : ℕ) → slice_get scoping.located k ≡ Some base → Contains reach.found k) → Contains reach.found number
    on_base number l here base base_is deep = by (slice_get footings number) refl (are.each number l (slice_get_within scoping.located number l here) here)
      where
        by : (o : Option Footing) → slice_get footings number ≡ o → IsSomeAnd o (IsFooting scoping l) → Contains reach.found number
        by None e h = absurd h
        by (Some (OnBuiltIn one)) e h = absurd (built_or_base scoping.texts l one base h base_is)
        by (Some OnNothing) e h = absurd (let z = h.1 in cc)
        by (Some (OnType k)) e h =
            let same : h.1.0 ≡ base = (let z = h.1.2 in cc) in
            let at : slice_get scoping.located k ≡ Some base = subst (λ z. slice_get scoping.located k ≡ Some z) same h.1.1 in
            let less : k < length footings = (let w = slice_get_within scoping.located k base at in omega (arith, are.counted)) in
            let few : number < length footings = (let w = slice_get_within scoping.located number l here in omega (arith, are.counted)) in
            reached.followed k number (deep k at) (dependents.has k number few less e) (in_graph number l here)

    on_built_in : (number : ℕ) (l : Located) → slice_get scoping.located number ≡ Some l → (one : BuiltIn) → built_in l ≡ Some one → Contains reach.found number
    on_built_in number l here one built = by (slice_get footings number) refl (are.each number l (slice_get_within scoping.located number l here) here)
      where
        by : (o : Option Footing) → slice_get footings number ≡ o → IsSomeAnd o (IsFooting scoping l) → Contains reach.found number
        by None e h = absurd h
        by (Some (OnBuiltIn other)) e h = reached.started number (are_starts.has number other (let w = slice_get_within scoping.located number l here in omega (arith, are.counted)) e) (in_graph number l here)
        by (Some OnNothing) e h = absurd (let z = h.0 in cc)
        by (Some (OnType k)) e h = absurd (let z = h.0 in cc)

    -- what means something was reached
    pub means_reached : (l : Located) (m : Meaning) → Means on scoping.texts l m → (number : ℕ) → slice_get scoping.located number ≡ Some l → Contains reach.found number
    means_reached _ _ (by_itself l one m built kept is) number here = on_built_in number l here one built
    means_reached _ _ (over l base n m base_is means kept is) number here = on_base number l here base base_is (means_reached base n means)

    pub breaks_reached : (l : Located) (fault : Fault) → Breaks on scoping.texts l fault → (number : ℕ) → slice_get scoping.located number ≡ Some l → Contains reach.found number
    breaks_reached l fault breaks number here = elim (how_breaks on scoping.texts l fault breaks) [
      | inl b ↦ on_built_in number l here b.one b.built
      | inr b ↦ on_base number l here b.base b.base_is (means_reached b.base b.meaning b.means)
    ]

    pub table_is : (meanings : Meanings) → AreSoFar on scoping reach.found meanings → AreMeanings on scoping meanings
    table_is meanings so_far number l here = by (slice_get reach.marks number) refl
      where
        by : (mark : Option Bool) → slice_get reach.marks number ≡ mark → IsSomeAnd (slice_get meanings.findings number) (IsFinding on scoping meanings.plans l)
        by None e = absurd (let past = get_none reach.marks number e in let less = in_graph number l here in let c = reached.counted in omega arith)
        by (Some true) e = so_far.found number l (reached.marks.marked number e) here
        by (Some false) e =
            let lacks = reached.marks.unmarked number e in
            subst (λ o. IsSomeAnd o (IsFinding on scoping meanings.plans l)) (sym (so_far.others number l lacks here))
            ((λ fault breaks. lacks (breaks_reached l fault breaks number here)), (λ m means. lacks (means_reached l m means number here)))

pub table_all : (on : ℕ → List ℕ → Bool) (scoping : Scoping) (footings : List Footing) → AreFootings scoping (length scoping.located) footings → (list : List Footing) → list ≡ footings → (reach : Reach) → IsOrdered list reach →
    (order : List ℕ) → order ≡ reach.found → (r : Result Meanings Memory) → IfOk r (AreSoFar on scoping order) → IfOk r (AreMeanings on scoping)
table_all on scoping footings are list list_is reach ordered order order_is (Err e) h = tt
table_all on scoping footings are list list_is reach ordered order order_is (Ok it) h =
    table_is list ordered.graph ordered.starts ordered.dependents ordered.are_starts on scoping (subst (AreFootings scoping (length scoping.located)) (sym list_is) are) reach ordered.reached it
    (subst (λ z. AreSoFar on scoping z it) order_is h)
