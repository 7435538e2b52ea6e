-- Meanings and faults of `type` statements.
use Rattle.std.proofs.Common.{inl, inr, ◌≡◌, ℕ, true, false, cond, List, [], ◌++◌, map, refl, sym, ap, ◌∙◌, subst}
use Rattle.std.specs.Prelude.{Bool, is_some, Option, Some, None, IsSomeAnd, option_map, slice_get, Contains, ◌⊎◌}
use Rattle.std.proofs.lemmas.List.{append-nil, map-append}
use Rattle.nc_schema.specs.declared.value_type.ValueType.{ValueType}
use Rattle.nc_yang_words.specs.declared.statement.Statement.{Statement}
use Rattle.nc_yang_statements.specs.declared.built_in.BuiltIn.{BuiltIn}
use Rattle.nc_yang_statements.specs.declared.fault.Fault.{Fault}
use Rattle.nc_yang_statements.specs.Rules.{first}
use Rattle.nc_yang_statements.specs.declared.keyword.Keyword.TheVariants.{Pattern, TypeName}
use Rattle.nc_yang_statements.specs.BuiltIns.{built_in_of}
use Rattle.nc_yang_statements.specs.Keywords.{is_same_keyword}
use Rattle.nc_yang_statements.specs.Statements.{below, kind, name}
use Rattle.nc_yang_statements.proofs.Firsts.{first_contains}
use Rattle.nc_yang_order.proofs.Lists.{contains_none}
use Rattle.nc_yang_scopes.specs.Scopes.{Located, Scoping}
use Rattle.nc_yang_types.specs.declared.member.Named.{Named}
use Rattle.nc_yang_types.proofs.ChoiceLemmas.{names_kept}
use Rattle.nc_yang_types.specs.Entries.{lists, names_left, narrowed, narrowed_faults, own_faults, required}
use Rattle.nc_yang_types.specs.Features.{stands}
use Rattle.nc_yang_types.specs.Meanings.{Breaks, DerivedFrom, Entry, Meaning, Means, OneOf, Refers, by_itself, in_itself, meant, names_of, over, over_base, shape, with_parts}
use Rattle.nc_yang_types.specs.Numbers.{AreNumbers}
use Rattle.nc_yang_types.specs.Places.{base_of, built_in, of_typedef, parts_of}
use Rattle.nc_yang_types.specs.Plans.{IsFinding, IsPlan, MeansNothing}
use Rattle.nc_yang_types.specs.inner.Planning.{ArePlan, IsFound, IsOver, IsOverBase, names_in, planned_over, shape_of}
use Rattle.nc_yang_types.specs.declared.found.Found.{Found}
use Rattle.nc_yang_types.specs.declared.found.Found.TheVariants.{New, Same}
use Rattle.nc_yang_types.specs.declared.planned.Finding.{Finding}
use Rattle.nc_yang_types.specs.declared.planned.Finding.TheVariants.{Broken, Nothing, Plan}
use Rattle.nc_yang_types.specs.declared.planned.Meanings.{Meanings}
use Rattle.nc_yang_types.specs.declared.planned.Planned.{Planned}
use Rattle.nc_yang_types.specs.declared.planned.Planned.TheVariants.{Bases, Finished, Leafref, Members}

-- a type over a built-in one is over no other
pub built_or_base : (texts : List Statement) (l : Located) (one : BuiltIn) (base : Located) → built_in l ≡ Some one → base_of texts l ≡ Some base → ⊥
built_or_base texts l one base = by (is_same_keyword TypeName (kind l.statement)) (built_in_of (name l.statement)) (of_typedef TypeName texts l)
  where
    by : (b : Bool) (o : Option BuiltIn) (t : Option Located) → cond b o None ≡ Some one → cond b (cond (is_some o) None t) None ≡ Some base → ⊥
    by false o t e f = absurd (cc)
    by true None t e f = absurd (cc)
    by true (Some other) t e f = absurd (cc)

pub record ByItself (on : ℕ → List ℕ → Bool) (texts : List Statement) (l : Located) (m : Meaning) : Type 0 where
  pub one : BuiltIn
  pub built : built_in l ≡ Some one
  pub kept : own_faults one l.statement ≡ []
  pub is : meant on one l ≡ Some m

pub record OverBase (on : ℕ → List ℕ → Bool) (texts : List Statement) (l : Located) (m : Meaning) : Type 0 where
  pub base : Located
  pub base_is : base_of texts l ≡ Some base
  pub meaning : Meaning
  pub means : Means on texts base meaning
  pub kept : narrowed_faults (shape meaning) (names_of meaning) (below l.statement) ≡ []
  pub is : with_parts on meaning l ≡ Some m

pub how_means : (on : ℕ → List ℕ → Bool) (texts : List Statement) (l : Located) (m : Meaning) → Means on texts l m → ByItself on texts l m ⊎ OverBase on texts l m
how_means on texts _ _ (by_itself l one m built kept is) = inl (record { one = one; built = built; kept = kept; is = is })
how_means on texts _ _ (over l base n m base_is means kept is) = inr (record { base = base; base_is = base_is; meaning = n; means = means; kept = kept; is = is })

-- a statement means one thing at most
pub means_one : (on : ℕ → List ℕ → Bool) (texts : List Statement) (l : Located) (m n : Meaning) → Means on texts l m → Means on texts l n → m ≡ n
means_one on texts _ _ n (by_itself l one m built kept is) other = elim (how_means on texts l n other) [
  | inl z ↦ (let same : one ≡ z.one = (let a = z.built in cc) in let e : meant on z.one l ≡ Some m = subst (λ k. meant on k l ≡ Some m) same is in let f = z.is in cc)
  | inr z ↦ absurd (built_or_base texts l one z.base built z.base_is)
]
means_one on texts _ _ n (over l base k m base_is means kept is) other = elim (how_means on texts l n other) [
  | inl z ↦ absurd (built_or_base texts l z.one base z.built base_is)
  | inr z ↦
      let same : z.base ≡ base = (let a = z.base_is in cc) in
      let one : k ≡ z.meaning = means_one on texts base k z.meaning means (subst (λ b. Means on texts b z.meaning) same z.means) in
      let e : with_parts on z.meaning l ≡ Some m = subst (λ j. with_parts on j l ≡ Some m) one is in
      let f = z.is in cc
]

pub record BreaksItself (l : Located) (fault : Fault) : Type 0 where
  pub one : BuiltIn
  pub built : built_in l ≡ Some one
  pub breaks : Contains (own_faults one l.statement) fault

pub record BreaksOver (on : ℕ → List ℕ → Bool) (texts : List Statement) (l : Located) (fault : Fault) : Type 0 where
  pub base : Located
  pub base_is : base_of texts l ≡ Some base
  pub meaning : Meaning
  pub means : Means on texts base meaning
  pub breaks : Contains (narrowed_faults (shape meaning) (names_of meaning) (below l.statement)) fault

pub how_breaks : (on : ℕ → List ℕ → Bool) (texts : List Statement) (l : Located) (fault : Fault) → Breaks on texts l fault → BreaksItself l fault ⊎ BreaksOver on texts l fault
how_breaks on texts _ _ (in_itself l one fault built breaks) = inl (record { one = one; built = built; breaks = breaks })
how_breaks on texts _ _ (over_base l base n fault base_is means breaks) = inr (record { base = base; base_is = base_is; meaning = n; means = means; breaks = breaks })

no_fault : (faults : List Fault) (fault : Fault) → faults ≡ [] → Contains faults fault → ⊥
no_fault faults fault kept h = contains_none fault (subst (λ z. Contains z fault) kept h)

first_some_not_none : (faults : List Fault) (fault : Fault) → first faults ≡ Some fault → faults ≡ [] → ⊥
first_some_not_none faults fault is kept = let e : first faults ≡ None = ap first kept in cc

-- a statement that means something breaks no rule
pub means_keeps : (on : ℕ → List ℕ → Bool) (texts : List Statement) (l : Located) (m : Meaning) (fault : Fault) → Means on texts l m → Breaks on texts l fault → ⊥
means_keeps on texts l m fault means breaks = elim (how_means on texts l m means) [
  | inl z ↦ elim (how_breaks on texts l fault breaks) [
    | inl b ↦ (let same : b.one ≡ z.one = (let p = b.built in let q = z.built in cc) in no_fault (own_faults z.one l.statement) fault z.kept (subst (λ k. Contains (own_faults k l.statement) fault) same b.breaks))
    | inr b ↦ built_or_base texts l z.one b.base z.built b.base_is
  ]
  | inr z ↦ elim (how_breaks on texts l fault breaks) [
    | inl b ↦ built_or_base texts l b.one z.base b.built z.base_is
    | inr b ↦
        let same : b.base ≡ z.base = (let p = b.base_is in let q = z.base_is in cc) in
        let one : b.meaning ≡ z.meaning = means_one on texts z.base b.meaning z.meaning (subst (λ k. Means on texts k b.meaning) same b.means) z.means in
        no_fault (narrowed_faults (shape z.meaning) (names_of z.meaning) (below l.statement)) fault z.kept (subst (λ k. Contains (narrowed_faults (shape k) (names_of k) (below l.statement)) fault) one b.breaks)
  ]
]

-- what is found of a type over a built-in one
module _ (on : ℕ → List ℕ → Bool) (scoping : Scoping) (l : Located) (one : BuiltIn) (built : built_in l ≡ Some one) where
  itself : (m : Meaning) → Means on scoping.texts l m → (own_faults one l.statement ≡ []) × (meant on one l ≡ Some m)
  itself m means = elim (how_means on scoping.texts l m means) [
    | inl z ↦ (let same : z.one ≡ one = (let a = z.built in cc) in (subst (λ k. own_faults k l.statement ≡ []) same z.kept, subst (λ k. meant on k l ≡ Some m) same z.is))
    | inr z ↦ absurd (built_or_base scoping.texts l one z.base built z.base_is)
  ]

  pub itself_plan : (plans : List Planned) (planned : Planned) → own_faults one l.statement ≡ [] → ArePlan scoping.located (Some planned) (meant on one l) → IsFound on scoping plans l (New planned)
  itself_plan plans planned kept is = by (meant on one l) refl is
    where
      by : (o : Option Meaning) → meant on one l ≡ o → ArePlan scoping.located (Some planned) o → IsFound on scoping plans l (New planned)
      by None e is = absurd is
      by (Some m) e is = (m, is, by_itself l one m built kept e)

  pub itself_nothing : (plans : List Planned) → own_faults one l.statement ≡ [] → ArePlan scoping.located None (meant on one l) → IsFound on scoping plans l (Same Nothing)
  itself_nothing plans kept is = (
    (λ fault breaks. elim (how_breaks on scoping.texts l fault breaks) [
      | inl b ↦ (let same : b.one ≡ one = (let p = b.built in cc) in no_fault (own_faults one l.statement) fault kept (subst (λ k. Contains (own_faults k l.statement) fault) same b.breaks))
      | inr b ↦ built_or_base scoping.texts l one b.base built b.base_is
    ]),
    (λ m means. subst (ArePlan scoping.located None) (itself m means).1 is),
  )

  pub itself_broken : (plans : List Planned) (fault : Fault) → first (own_faults one l.statement) ≡ Some fault → IsFound on scoping plans l (Same (Broken fault))
  itself_broken plans fault is = (
    in_itself l one fault built (first_contains (own_faults one l.statement) fault is),
    (λ m means. first_some_not_none (own_faults one l.statement) fault is (itself m means).0),
  )

-- a plan over another
pub same_shape : (located : List Located) (planned : Planned) (m : Meaning) → IsPlan located planned m → shape_of planned ≡ shape m
same_shape located (Finished entry ns names) (Entry other ps others) is = is.0
same_shape located (Finished entry ns names) (OneOf ls) is = absurd is
same_shape located (Finished entry ns names) (DerivedFrom ls) is = absurd is
same_shape located (Finished entry ns names) (Refers path need) is = absurd is
same_shape located (Members ns) (Entry other ps others) is = absurd is
same_shape located (Members ns) (OneOf ls) is = refl
same_shape located (Members ns) (DerivedFrom ls) is = absurd is
same_shape located (Members ns) (Refers path need) is = absurd is
same_shape located (Bases ns) (Entry other ps others) is = absurd is
same_shape located (Bases ns) (OneOf ls) is = absurd is
same_shape located (Bases ns) (DerivedFrom ls) is = refl
same_shape located (Bases ns) (Refers path need) is = absurd is
same_shape located (Leafref n b) (Entry other ps others) is = absurd is
same_shape located (Leafref n b) (OneOf ls) is = absurd is
same_shape located (Leafref n b) (DerivedFrom ls) is = absurd is
same_shape located (Leafref n b) (Refers path need) is = ap (λ z. shape (Refers path z)) is.1

pub same_names : (located : List Located) (planned : Planned) (m : Meaning) → IsPlan located planned m → names_in planned ≡ names_of m
same_names located (Finished entry ns names) (Entry other ps others) is = is.2
same_names located (Finished entry ns names) (OneOf ls) is = absurd is
same_names located (Finished entry ns names) (DerivedFrom ls) is = absurd is
same_names located (Finished entry ns names) (Refers path need) is = absurd is
same_names located (Members ns) (Entry other ps others) is = absurd is
same_names located (Members ns) (OneOf ls) is = refl
same_names located (Members ns) (DerivedFrom ls) is = absurd is
same_names located (Members ns) (Refers path need) is = absurd is
same_names located (Bases ns) (Entry other ps others) is = absurd is
same_names located (Bases ns) (OneOf ls) is = absurd is
same_names located (Bases ns) (DerivedFrom ls) is = refl
same_names located (Bases ns) (Refers path need) is = absurd is
same_names located (Leafref n b) (Entry other ps others) is = absurd is
same_names located (Leafref n b) (OneOf ls) is = absurd is
same_names located (Leafref n b) (DerivedFrom ls) is = absurd is
same_names located (Leafref n b) (Refers path need) is = refl

-- the numbers of statements, and of others after them
numbers_more : (located : List Located) (ns ms : List ℕ) (ls ks : List Located) → AreNumbers located ns ls → AreNumbers located ms ks → AreNumbers located (ns ++ ms) (ls ++ ks)
numbers_more located ns ms ls ks first more =
    map-append (slice_get located) ns ms ∙ ap (λ z. z ++ map (slice_get located) ms) first ∙ ap (λ z. map Some ls ++ z) more
    ∙ sym (map-append Some ls ks)

-- with the patterns and the parts of a type over it
with_plan : (on : ℕ → List ℕ → Bool) (located : List Located) (l : Located) (own : List ℕ) (planned other : Planned) (n : Meaning) → AreNumbers located own (parts_of Pattern l) → IsPlan located planned n →
    planned_over (stands on l.place.text) planned own (below l.statement) ≡ Some other → (m : Meaning) × (with_parts on n l ≡ Some m) × IsPlan located other m
with_plan on located l own (Finished entry ns names) other (Entry base ps others) are is e = by (narrowed (stands on l.place.text) entry (below l.statement)) refl e
  where
    ss : List Statement
    ss = below l.statement

    by : (o : Option ValueType) → narrowed (stands on l.place.text) entry (below l.statement) ≡ o → option_map (λ left. Finished left (ns ++ own) (names_left entry names (below l.statement))) o ≡ Some other →
        (m : Meaning) × (with_parts on (Entry base ps others) l ≡ Some m) × IsPlan located other m
    by None f e = absurd (cc)
    by (Some v) f e =
        let same : Finished v (ns ++ own) (names_left entry names ss) ≡ other = cc in
        let all : List Located = ps ++ parts_of Pattern l in
        let kept : names_left entry names ss ≡ names_left base others ss = (λ i. names_left (is.0 i) (is.2 i) ss) in (
          Entry v all (names_left base others ss),
          ap (λ z. option_map (λ left. Entry left all (names_left base others ss)) (narrowed (stands on l.place.text) z ss)) (sym is.0) ∙ ap (option_map (λ left. Entry left all (names_left base others ss))) f,
          subst (λ z. IsPlan located z (Entry v all (names_left base others ss))) same (refl, numbers_more located ns own ps (parts_of Pattern l) is.1 are, kept),
        )
with_plan on located l own (Finished entry ns names) other (OneOf ls) are is e = absurd is
with_plan on located l own (Finished entry ns names) other (DerivedFrom ls) are is e = absurd is
with_plan on located l own (Finished entry ns names) other (Refers path need) are is e = absurd is
with_plan on located l own (Members ns) other (Entry base ps others) are is e = absurd is
with_plan on located l own (Members ns) other (OneOf ls) are is e = let same : Members ns ≡ other = cc in (OneOf ls, refl, subst (λ z. IsPlan located z (OneOf ls)) same is)
with_plan on located l own (Members ns) other (DerivedFrom ls) are is e = absurd is
with_plan on located l own (Members ns) other (Refers path need) are is e = absurd is
with_plan on located l own (Bases ns) other (Entry base ps others) are is e = absurd is
with_plan on located l own (Bases ns) other (OneOf ls) are is e = absurd is
with_plan on located l own (Bases ns) other (DerivedFrom ls) are is e = let same : Bases ns ≡ other = cc in (DerivedFrom ls, refl, subst (λ z. IsPlan located z (DerivedFrom ls)) same is)
with_plan on located l own (Bases ns) other (Refers path need) are is e = absurd is
with_plan on located l own (Leafref n b) other (Entry base ps others) are is e = absurd is
with_plan on located l own (Leafref n b) other (OneOf ls) are is e = absurd is
with_plan on located l own (Leafref n b) other (DerivedFrom ls) are is e = absurd is
with_plan on located l own (Leafref n b) other (Refers path need) are is e =
    let same : Leafref n (required b (below l.statement)) ≡ other = cc in
    (Refers path (required need (below l.statement)), refl, subst (λ z. IsPlan located z (Refers path (required need (below l.statement)))) same (is.0, ap (λ z. required z (below l.statement)) is.1))

-- where it adds nothing
pub over_same : (holds : Statement → Bool) (entry : ValueType) (patterns own : List ℕ) (names : List Named) (ss : List Statement) → narrowed holds entry ss ≡ Some entry → (own ≡ []) × (lists entry ss ≡ false) →
    planned_over holds (Finished entry patterns names) own ss ≡ Some (Finished entry patterns names)
over_same holds entry patterns own names ss e adds =
    ap (option_map (λ left. Finished left (patterns ++ own) (names_left entry names ss))) e
    ∙ ap (λ more. Some (Finished entry (patterns ++ more) (names_left entry names ss))) adds.0
    ∙ ap (λ all. Some (Finished entry all (names_left entry names ss))) (append-nil patterns)
    ∙ ap (λ left. Some (Finished entry patterns left)) (names_kept entry names ss adds.1)

-- what is found of a type over another, whose own `pattern` statements have these numbers
module _ (on : ℕ → List ℕ → Bool) (scoping : Scoping) (l base : Located) (base_is : base_of scoping.texts l ≡ Some base) (own : List ℕ) (are : AreNumbers scoping.located own (parts_of Pattern l)) where
  means_over : (m : Meaning) → Means on scoping.texts l m → OverBase on scoping.texts l m
  means_over m means = elim (how_means on scoping.texts l m means) [
    | inl z ↦ absurd (built_or_base scoping.texts l z.one base z.built base_is)
    | inr z ↦ z
  ]

  breaks_over : (fault : Fault) → Breaks on scoping.texts l fault → BreaksOver on scoping.texts l fault
  breaks_over fault breaks = elim (how_breaks on scoping.texts l fault breaks) [
    | inl b ↦ absurd (built_or_base scoping.texts l b.one base b.built base_is)
    | inr b ↦ b
  ]

  -- where the other means nothing
  pub over_nothing : MeansNothing on scoping base → IsFinding on scoping [] l Nothing
  over_nothing none = (
    (λ fault breaks. let b = breaks_over fault breaks in let same : b.base ≡ base = (let p = b.base_is in cc) in none b.meaning (subst (λ k. Means on scoping.texts k b.meaning) same b.means)),
    (λ m means. let z = means_over m means in let same : z.base ≡ base = (let p = z.base_is in cc) in none z.meaning (subst (λ k. Means on scoping.texts k z.meaning) same z.means)),
  )

  module _ (plans : List Planned) (place : ℕ) (planned : Planned) (there : slice_get plans place ≡ Some planned) (n : Meaning) (is : IsPlan scoping.located planned n) (means : Means on scoping.texts base n) where
    same_faults : narrowed_faults (shape_of planned) (names_in planned) (below l.statement) ≡ narrowed_faults (shape n) (names_of n) (below l.statement)
    same_faults = λ i. narrowed_faults (same_shape scoping.located planned n is i) (same_names scoping.located planned n is i) (below l.statement)

    kept_too : narrowed_faults (shape_of planned) (names_in planned) (below l.statement) ≡ [] → narrowed_faults (shape n) (names_of n) (below l.statement) ≡ []
    kept_too kept = sym same_faults ∙ kept

    new_plan : (other : Planned) → planned_over (stands on l.place.text) planned own (below l.statement) ≡ Some other → narrowed_faults (shape_of planned) (names_in planned) (below l.statement) ≡ [] →
        (m : Meaning) × IsPlan scoping.located other m × Means on scoping.texts l m
    new_plan other e kept =
        let w = with_plan on scoping.located l own planned other n are is e in
        (w.0, w.2, over l base n w.0 base_is means (kept_too kept) w.1)

    broken : (fault : Fault) → first (narrowed_faults (shape_of planned) (names_in planned) (below l.statement)) ≡ Some fault → IsFinding on scoping plans l (Broken fault)
    broken fault e =
        let e' : first (narrowed_faults (shape n) (names_of n) (below l.statement)) ≡ Some fault = sym (ap first same_faults) ∙ e in (
          over_base l base n fault base_is means (first_contains (narrowed_faults (shape n) (names_of n) (below l.statement)) fault e'),
          (λ m other.
              let z = means_over m other in
              let same : z.base ≡ base = (let p = z.base_is in cc) in
              let one : z.meaning ≡ n = means_one on scoping.texts base z.meaning n (subst (λ k. Means on scoping.texts k z.meaning) same z.means) means in
              first_some_not_none (narrowed_faults (shape n) (names_of n) (below l.statement)) fault e' (subst (λ k. narrowed_faults (shape k) (names_of k) (below l.statement) ≡ []) one z.kept)),
        )

    pub over_plan : (found : Found) → IsOver (stands on l.place.text) place planned own (below l.statement) found → IsFound on scoping plans l found
    over_plan (New other) h = new_plan other h.0 h.1
    over_plan (Same Nothing) h = absurd h
    over_plan (Same (Broken fault)) h = broken fault h
    over_plan (Same (Plan number)) h =
        let w = new_plan planned h.1 h.2 in
        record { plan = planned; there = subst (λ z. slice_get plans z ≡ Some planned) (sym h.0) there; meaning = w.0; is = w.1; means = w.2 }

  -- a base of which it is known what was found
  pub over_number : (meanings : Meanings) (number : ℕ) (found : Found) → IsOverBase (stands on l.place.text) meanings number own (below l.statement) found →
      IsSomeAnd (slice_get meanings.findings number) (IsFinding on scoping meanings.plans base) → IsFound on scoping meanings.plans l found
  over_number meanings number found h known = by (slice_get meanings.findings number) refl known h
    where
      lacking : (found : Found) → found ≡ Same Nothing → MeansNothing on scoping base → IsFound on scoping meanings.plans l found
      lacking found same none = subst (IsFound on scoping meanings.plans l) (sym same) (over_nothing none)

      by : (o : Option Finding) → slice_get meanings.findings number ≡ o → IsSomeAnd o (IsFinding on scoping meanings.plans base) → IsOverBase (stands on l.place.text) meanings number own (below l.statement) found → IsFound on scoping meanings.plans l found
      by None e known h = absurd known
      by (Some Nothing) e known (inl p) = absurd (let f = p.2.0 in cc)
      by (Some Nothing) e known (inr none) = lacking found none.1 known.1
      by (Some (Broken fault)) e known (inl p) = absurd (let f = p.2.0 in cc)
      by (Some (Broken fault)) e known (inr none) = lacking found none.1 known.1
      by (Some (Plan place)) e known (inl p) =
          let eq : place ≡ p.0 = (let f = p.2.0 in cc) in
          let at : slice_get meanings.plans place ≡ Some p.1 = subst (λ z. slice_get meanings.plans z ≡ Some p.1) (sym eq) p.2.1 in
          let same : known.plan ≡ p.1 = (let t = known.there in cc) in
          over_plan meanings.plans p.0 p.1 p.2.1 known.meaning (subst (λ z. IsPlan scoping.located z known.meaning) same known.is) known.means found p.3
      by (Some (Plan place)) e known (inr none) = absurd (none.0 place known.plan (e, known.there))

-- what is found of what is no type
pub on_nothing : (on : ℕ → List ℕ → Bool) (scoping : Scoping) (plans : List Planned) (l : Located) → built_in l ≡ None → base_of scoping.texts l ≡ None → IsFinding on scoping plans l Nothing
on_nothing on scoping plans l no_built no_base = (
  (λ fault breaks. elim (how_breaks on scoping.texts l fault breaks) [ inl b ↦ (let p = b.built in cc) | inr b ↦ (let p = b.base_is in cc) ]),
  (λ m means. elim (how_means on scoping.texts l m means) [ inl z ↦ (let p = z.built in cc) | inr z ↦ (let p = z.base_is in cc) ]),
)
