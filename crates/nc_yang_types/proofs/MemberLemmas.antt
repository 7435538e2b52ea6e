-- Members of unions that refer to other data.
use Rattle.std.proofs.Common.{inl, inr, ◌≡◌, ◌<◌, ◌≤◌, ◌+◌, ◌⊎◌, ◌&&◌, ℕ, Bool, true, false, cond, List, length, get_or, refl, sym, ap, subst, ◌∙◌, arith}
use Rattle.std.specs.Prelude.{Option, Some, None, slice_get, option_map, option_and_then, IsSomeAnd}
use Rattle.std.specs.Option.{option_map_or}
use Rattle.std.proofs.lemmas.Bool.{cases_lt}
use Rattle.nc_names.proofs.SameLemmas.{first_true, second_true}
use Rattle.nc_yang_words.specs.declared.statement.Statement.{Statement}
use Rattle.nc_yang_statements.specs.declared.built_in.BuiltIn.{BuiltIn}
use Rattle.nc_yang_statements.specs.declared.built_in.BuiltIn.TheVariants.{Union}
use Rattle.nc_yang_statements.specs.declared.fault.Fault.{Fault}
use Rattle.nc_yang_statements.specs.declared.fault.ModuleWhy.TheVariants.{Unsupported}
use Rattle.nc_yang_statements.specs.declared.keyword.Keyword.TheVariants.{TypeName}
use Rattle.nc_yang_statements.specs.BuiltIns.{built_in_of}
use Rattle.nc_yang_statements.specs.Keywords.{is_same_keyword}
use Rattle.nc_yang_statements.specs.Statements.{below, kind, line, name}
use Rattle.nc_yang_scopes.specs.Scopes.{Located, Scoping, child, inside as inside_of}
use Rattle.nc_yang_scopes.specs.inner.Naming.{HasNumber}
use Rattle.nc_yang_scopes.proofs.Lists.{get_within}
use Rattle.nc_yang_scopes.proofs.PartLemmas.{statement_is}
use Rattle.nc_yang_types.specs.Faults.{MeansReference, RefersInUnion, is_reference}
use Rattle.nc_yang_types.specs.Meanings.{Meaning, Means, shape}
use Rattle.nc_yang_types.specs.Plans.{AreMeanings, IsFinding}
use Rattle.nc_yang_types.specs.inner.Judging.{is_referring, is_union, is_union_type, refers_at, refers_by}
use Rattle.nc_yang_types.specs.inner.Planning.{shape_of}
use Rattle.nc_yang_types.specs.declared.planned.Finding.{Finding}
use Rattle.nc_yang_types.specs.declared.planned.Finding.TheVariants.{Broken, Nothing, Plan}
use Rattle.nc_yang_types.specs.declared.planned.Meanings.{Meanings}
use Rattle.nc_yang_types.specs.declared.planned.Planned.{Planned}
use Rattle.nc_yang_types.proofs.CheckLemmas.{child_is}
use Rattle.nc_yang_types.proofs.MeaningLemmas.{means_one, same_shape}

abbrev refers_plan : Option Planned → Bool
refers_plan o = option_map_or (λ p. is_reference (shape_of p)) o false

-- a member
module _ (scoping : Scoping) (meanings : Meanings) (on : ℕ → List ℕ → Bool) (are : AreMeanings on scoping meanings) (k : ℕ) (c : Located) (at : slice_get scoping.located k ≡ Some c) where
  means_reference : refers_at meanings k ≡ true → (m : Meaning) × Means on scoping.texts c m × (is_reference (shape m) ≡ true)
  means_reference e = by (slice_get meanings.findings k) (are k c at) e
    where
      by : (o : Option Finding) → IsSomeAnd o (IsFinding on scoping meanings.plans c) → refers_by meanings.plans o ≡ true → (m : Meaning) × Means on scoping.texts c m × (is_reference (shape m) ≡ true)
      by None h f = absurd h
      by (Some Nothing) h f = absurd (cc)
      by (Some (Broken fault)) h f = absurd (cc)
      by (Some (Plan place)) h f =
          let plan_refers : is_reference (shape_of h.plan) ≡ true = sym (ap refers_plan h.there) ∙ f in
          (h.meaning, h.means, ap is_reference (sym (same_shape scoping.located h.plan h.meaning h.is)) ∙ plan_refers)

  means_none : refers_at meanings k ≡ false → (m : Meaning) → Means on scoping.texts c m → is_reference (shape m) ≡ true → ⊥
  means_none e = by (slice_get meanings.findings k) (are k c at) e
    where
      by : (o : Option Finding) → IsSomeAnd o (IsFinding on scoping meanings.plans c) → refers_by meanings.plans o ≡ false → (m : Meaning) → Means on scoping.texts c m → is_reference (shape m) ≡ true → ⊥
      by None h f m means r = absurd h
      by (Some Nothing) h f m means r = h.1 m means
      by (Some (Broken fault)) h f m means r = h.1 m means
      by (Some (Plan place)) h f m means r =
          let none : is_reference (shape_of h.plan) ≡ false = sym (ap refers_plan h.there) ∙ f in
          let one : h.meaning ≡ m = means_one on scoping.texts c h.meaning m h.means means in
          let here : is_reference (shape h.meaning) ≡ false = ap is_reference (sym (same_shape scoping.located h.plan h.meaning h.is)) ∙ none in
          let there : is_reference (shape h.meaning) ≡ true = subst (λ z. is_reference (shape z) ≡ true) (sym one) r in
          cc (here, there)

  module _ (t : Statement) (is : c.statement ≡ t) where
    pub refers_there : is_referring meanings k t ≡ true → MeansReference on scoping.texts c
    refers_there e =
        let m = means_reference (second_true (is_same_keyword TypeName (kind t)) (refers_at meanings k) e) in
        record {
          is_type = ap (λ z. is_same_keyword TypeName (kind z)) is ∙ first_true (is_same_keyword TypeName (kind t)) (refers_at meanings k) e;
          meaning = m.0;
          means = m.1;
          refers = m.2;
        }

    pub refers_not : is_referring meanings k t ≡ false → MeansReference on scoping.texts c → ⊥
    refers_not e r =
        let typed : is_same_keyword TypeName (kind t) ≡ true = sym (ap (λ z. is_same_keyword TypeName (kind z)) is) ∙ r.is_type in
        let none : refers_at meanings k ≡ false = sym (ap (λ b. b && refers_at meanings k) typed) ∙ e in
        means_none none r.meaning r.means r.refers

-- the `type` statement of a union
union_is : (b : Bool) (o : Option BuiltIn) → cond b o None ≡ Some Union → (b && is_union_type o) ≡ true
union_is false o e = absurd (cc)
union_is true o e = ap is_union_type e

union_of : (b : Bool) (o : Option BuiltIn) → (b && is_union_type o) ≡ true → cond b o None ≡ Some Union
union_of false o e = absurd (cc)
union_of true None e = absurd (cc)
union_of true (Some Union) e = refl
union_of true (Some one) e = absurd (cc)

module _ (scoping : Scoping) (meanings : Meanings) (n : ℕ) (s : Statement) (number : HasNumber scoping n s) (on : ℕ → List ℕ → Bool) (are : AreMeanings on scoping meanings) (l : Located) (here : slice_get scoping.located n ≡ Some l) where
  same : l.statement ≡ s
  same = statement_is scoping n s l number here

  pub no_union : is_union s ≡ false → (fault : Fault) → RefersInUnion on scoping.texts l fault → ⊥
  no_union e fault h =
      let f : is_union l.statement ≡ true = union_is (is_same_keyword TypeName (kind l.statement)) (built_in_of (name l.statement)) h.union in
      let g : is_union s ≡ true = sym (ap is_union same) ∙ f in
      cc (e, g)

  abbrev put : Statement → Located
  put t = record { statement = t; place = inside_of l }

  pub member_found : (among : List Statement) → among ≡ below s → (place k : ℕ) (t : Statement) (fault : Fault) → is_union s ≡ true → place < length among → t ≡ get_or among place t →
      slice_get scoping.located k ≡ option_and_then (child place) (slice_get scoping.located n) → is_referring meanings k t ≡ true →
      fault ≡ record { line = line t; why = Unsupported } → RefersInUnion on scoping.texts l fault
  member_found among among_is place k t fault union less is at referring fault_is =
      let one = child_is scoping meanings n s number on are l here among among_is place t less is in
      let there : slice_get scoping.located k ≡ Some (put t) = at ∙ ap (option_and_then (child place)) here ∙ one in
      record {
        union = union_of (is_same_keyword TypeName (kind l.statement)) (built_in_of (name l.statement)) (ap is_union same ∙ union);
        place = place;
        member = put t;
        there = one;
        refers = refers_there scoping meanings on are k (put t) there t refl referring;
        at = fault_is;
      }

  pub member_step : (among : List Statement) → among ≡ below s → (place k : ℕ) (t : Statement) → place < length among → t ≡ get_or among place t →
      slice_get scoping.located k ≡ option_and_then (child place) (slice_get scoping.located n) → is_referring meanings k t ≡ false →
      ((i : ℕ) (c : Located) → i < place → child i l ≡ Some c → MeansReference on scoping.texts c → ⊥) → (i : ℕ) (c : Located) → i < place + 1 → child i l ≡ Some c → MeansReference on scoping.texts c → ⊥
  member_step among among_is place k t less is at none before i c lt one r = by (cases_lt i place)
    where
      by : (i < place) ⊎ (place ≤ i) → ⊥
      by (inl earlier) = before i c earlier one r
      by (inr now) =
          let equal : i ≡ place = omega arith in
          let own = child_is scoping meanings n s number on are l here among among_is place t less is in
          let there : slice_get scoping.located k ≡ Some (put t) = at ∙ ap (option_and_then (child place)) here ∙ own in
          let both : Some (put t) ≡ Some c = sym own ∙ ap (λ z. child z l) (sym equal) ∙ one in
          let it : put t ≡ c = cc in
          refers_not scoping meanings on are k (put t) there t refl none (subst (MeansReference on scoping.texts) (sym it) r)

  pub members_all : (among : List Statement) → among ≡ below s → (count : ℕ) → length among ≤ count →
      ((i : ℕ) (c : Located) → i < count → child i l ≡ Some c → MeansReference on scoping.texts c → ⊥) → (fault : Fault) → RefersInUnion on scoping.texts l fault → ⊥
  members_all among among_is count le none fault h =
      let within : h.place < length (below l.statement) = by (slice_get (below l.statement) h.place) refl h.there in
      let e = ap (λ z. length (below z)) same in
      let f = ap length among_is in
      none h.place h.member (omega arith) h.there h.refers
    where
      by : (o : Option Statement) → slice_get (below l.statement) h.place ≡ o → option_map put o ≡ Some h.member → h.place < length (below l.statement)
      by None none e = absurd (cc)
      by (Some t) there e = get_within (below l.statement) h.place t there
