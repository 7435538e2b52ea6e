-- Defaults that name conditional enums and bits.
use Rattle.std.proofs.Common.{◌≡◌, ◌<◌, ◌≤◌, ◌+◌, ◌⊎◌, ◌||◌, ℕ, Bool, true, false, List, [], ◌∷◌, length, map, take, drop, get_or, inl, inr, refl, sym, ap, subst, ◌∙◌, arith}
use Rattle.std.specs.Prelude.{Option, Some, None, Result, Ok, Err, slice_get, option_map, unwrap_or, Decides, IfOk, IsSomeAnd, Contains}
use Rattle.std.specs.List.{list_any, position_or_len}
use Rattle.std.specs.Option.{option_map_or}
use Rattle.std.proofs.lemmas.Bool.{cases_lt}
use Rattle.std.proofs.lemmas.List.{length-map}
use Rattle.std.proofs.lemmas.List.Elements.{Contains-append_right}
use Rattle.std.proofs.lemmas.List.Folds.{list_any-append}
use Rattle.std.proofs.lemmas.Option.{slice_get-map, slice_get_within}
use Rattle.nc_names.specs.Signs.{is_white}
use Rattle.nc_schema.specs.Values.{words_of}
use Rattle.nc_types.proofs.BitLemmas.{last_word, word_after}
use Rattle.nc_yang_words.specs.declared.statement.Statement.{Statement}
use Rattle.nc_yang_statements.specs.declared.fault.Fault.{Fault}
use Rattle.nc_yang_statements.specs.declared.fault.ModuleWhy.TheVariants.{BadArgument}
use Rattle.nc_yang_statements.specs.declared.keyword.Keyword.TheVariants.{Default, TypeName}
use Rattle.nc_yang_statements.specs.Keywords.{is_same_keyword}
use Rattle.nc_yang_statements.specs.Statements.{below, kind, line, name}
use Rattle.nc_yang_order.proofs.Lists.{contains_none}
use Rattle.nc_yang_order.specs.Orders.{Reaches, further as onwards, here as at_once, targets}
use Rattle.nc_yang_scopes.specs.Numbers.{AreNumbers, IsNumber}
use Rattle.nc_yang_scopes.specs.Parts.{part_of}
use Rattle.nc_yang_scopes.specs.Scopes.{Located, Scoping, child, inside as inside_of}
use Rattle.nc_yang_scopes.specs.inner.Naming.{HasNumber}
use Rattle.nc_yang_scopes.proofs.LinkLists.{contains_cases, contains_first}
use Rattle.nc_yang_scopes.proofs.Lists.{get_within}
use Rattle.nc_yang_scopes.proofs.PartLemmas.{statement_is}
use Rattle.nc_yang_types.specs.Faults.{DefaultsToConditional, ListsConditional, TakesConditional, listed, names_conditional, of_member}
use Rattle.nc_yang_types.specs.Meanings.{Meaning, Means, OneOf, names_of, shape}
use Rattle.nc_yang_types.specs.Plans.{AreMeanings, IsFinding, IsPlan}
use Rattle.nc_yang_types.specs.inner.Judging.{TellsDefault, TellsTaking, names_among, names_at, names_by, some_word}
use Rattle.nc_yang_types.specs.inner.Nested.{IsReachedFrom, member_graph, members_by, members_in}
use Rattle.nc_yang_types.specs.inner.Planning.{names_in, shape_of}
use Rattle.nc_yang_types.specs.declared.planned.Finding.{Finding}
use Rattle.nc_yang_types.specs.declared.planned.Finding.TheVariants.{Broken, Nothing, Plan}
use Rattle.nc_yang_types.specs.declared.planned.Meanings.{Meanings}
use Rattle.nc_yang_types.specs.declared.planned.Planned.{Planned}
use Rattle.nc_yang_types.specs.declared.planned.Planned.TheVariants.{Bases, Finished, Leafref, Members}
use Rattle.nc_yang_types.proofs.CheckLemmas.{child_is}
use Rattle.nc_yang_types.proofs.MeaningLemmas.{means_one, same_names, same_shape}

-- ---- words
one_more : (a b : Bool) → (a || b) ≡ (a || (false || b))
one_more true b = refl
one_more false b = refl

pub word_passed : (test : List ℕ → Bool) (text rest front back after : List ℕ) (at : ℕ) → list_any test (words_of text) ≡ list_any test (words_of rest) →
    at ≡ position_or_len is_white rest → at < length rest → front ≡ take at rest → back ≡ drop at rest → after ≡ drop 1 back →
    list_any test (some_word front) ≡ false → list_any test (words_of text) ≡ list_any test (words_of after)
word_passed test text rest front back after at same place within is_front is_back is_after none =
    same ∙ ap (list_any test) (word_after rest rest front back after at [] (some_word front) refl place within is_front is_back is_after refl)
    ∙ list_any-append test (some_word front) (words_of after) ∙ ap (λ b. b || list_any test (words_of after)) none

pub word_found : (test : List ℕ → Bool) (text rest front back : List ℕ) (at : ℕ) → list_any test (words_of text) ≡ list_any test (words_of rest) →
    at ≡ position_or_len is_white rest → at < length rest → front ≡ take at rest → back ≡ drop at rest →
    list_any test (some_word front) ≡ true → true ≡ list_any test (words_of text)
word_found test text rest front back at same place within is_front is_back found =
    sym (same ∙ ap (list_any test) (word_after rest rest front back (drop 1 back) at [] (some_word front) refl place within is_front is_back refl refl)
    ∙ list_any-append test (some_word front) (words_of (drop 1 back)) ∙ ap (λ b. b || list_any test (words_of (drop 1 back))) found)

pub word_ends : (test : List ℕ → Bool) (text rest : List ℕ) (at : ℕ) → list_any test (words_of text) ≡ list_any test (words_of rest) →
    at ≡ position_or_len is_white rest → length rest ≤ at → list_any test (some_word rest) ≡ list_any test (words_of text)
word_ends test text rest at same place past = ap (list_any test) (last_word rest rest at [] (some_word rest) refl place past refl) ∙ sym same

-- ---- what a type lists
abbrev plan_names : List ℕ → Option Planned → Bool
plan_names text o = option_map_or (λ p. names_conditional (shape_of p) (names_in p) text) o false

module _ (scoping : Scoping) (meanings : Meanings) (on : ℕ → List ℕ → Bool) (are : AreMeanings on scoping meanings) (k : ℕ) (c : Located) (at : slice_get scoping.located k ≡ Some c) (text : List ℕ) where
  meant_names : (plan : Planned) (m : Meaning) → IsPlan scoping.located plan m → names_conditional (shape_of plan) (names_in plan) text ≡ names_conditional (shape m) (names_of m) text
  meant_names plan m is = λ i. names_conditional (same_shape scoping.located plan m is i) (same_names scoping.located plan m is i) text

  abbrev is_meant : (plan : Planned) (m : Meaning) → Type 0
  is_meant plan m = IsPlan scoping.located plan m × Means on scoping.texts c m

  listed_not : (plan : Planned) (m : Meaning) → is_meant plan m → names_conditional (shape_of plan) (names_in plan) text ≡ false → ListsConditional on scoping.texts c text → ⊥
  listed_not plan m is none lists =
      let one : m ≡ lists.meaning = means_one on scoping.texts c m lists.meaning is.1 lists.means in
      let here : names_conditional (shape m) (names_of m) text ≡ false = sym (meant_names plan m is.0) ∙ none in
      let there : names_conditional (shape m) (names_of m) text ≡ true = subst (λ z. names_conditional (shape z) (names_of z) text ≡ true) (sym one) lists.conditional in
      cc (here, there)

  lists_there : names_at meanings k text ≡ true → ListsConditional on scoping.texts c text
  lists_there e = by (slice_get meanings.findings k) (are k c at) e
    where
      by : (o : Option Finding) → IsSomeAnd o (IsFinding on scoping meanings.plans c) → names_by meanings.plans text o ≡ true → ListsConditional on scoping.texts c text
      by None h f = absurd h
      by (Some Nothing) h f = absurd (cc)
      by (Some (Broken fault)) h f = absurd (cc)
      by (Some (Plan place)) h f =
          record {
            meaning = h.meaning;
            means = h.means;
            conditional = sym (meant_names h.plan h.meaning h.is) ∙ sym (ap (plan_names text) h.there) ∙ f;
          }

  lists_not : names_at meanings k text ≡ false → ListsConditional on scoping.texts c text → ⊥
  lists_not e lists = by (slice_get meanings.findings k) (are k c at) e
    where
      by : (o : Option Finding) → IsSomeAnd o (IsFinding on scoping meanings.plans c) → names_by meanings.plans text o ≡ false → ⊥
      by None h f = absurd h
      by (Some Nothing) h f = h.1 lists.meaning lists.means
      by (Some (Broken fault)) h f = h.1 lists.meaning lists.means
      by (Some (Plan place)) h f = listed_not h.plan h.meaning (h.is, h.means) (sym (ap (plan_names text) h.there) ∙ f) lists

-- ---- members
module _ (scoping : Scoping) where
  -- the statement of one of several numbers, and the number of one of their statements
  member_at : (ns : List ℕ) (ls : List Located) → AreNumbers scoping.located ns ls → (n : ℕ) → Contains ns n → (one : Located) × Contains ls one × (slice_get scoping.located n ≡ Some one)
  member_at [] ls is n h = absurd (contains_none n h)
  member_at (m ∷ ns) [] is n h = absurd (cc)
  member_at (m ∷ ns) (l ∷ ls) is n h =
      let first : slice_get scoping.located m ≡ Some l = cc in
      let rest : map (slice_get scoping.located) ns ≡ map Some ls = cc in
      elim (contains_cases m ns n h) [
        | inl same ↦ (l, contains_first l ls, subst (λ z. slice_get scoping.located z ≡ Some l) same first)
        | inr later ↦ (let r = member_at ns ls rest n later in (r.0, Contains-append_right (l ∷ []) ls r.0 r.1, r.2))
      ]

  number_of : (ns : List ℕ) (ls : List Located) → AreNumbers scoping.located ns ls → (one : Located) → Contains ls one → (n : ℕ) × Contains ns n × (slice_get scoping.located n ≡ Some one)
  number_of ns [] is one h = absurd (contains_none one h)
  number_of [] (l ∷ ls) is one h = absurd (cc)
  number_of (n ∷ ns) (l ∷ ls) is one h =
      let first : slice_get scoping.located n ≡ Some l = cc in
      let rest : map (slice_get scoping.located) ns ≡ map Some ls = cc in
      elim (contains_cases l ls one h) [
        | inl same ↦ (n, contains_first n ns, subst (λ z. slice_get scoping.located n ≡ Some z) same first)
        | inr later ↦ (let r = number_of ns ls rest one later in (r.0, Contains-append_right (n ∷ []) ns r.0 r.1, r.2))
      ]

module _ (scoping : Scoping) (meanings : Meanings) (on : ℕ → List ℕ → Bool) (are : AreMeanings on scoping meanings) where
  abbrev graph : List (List ℕ)
  graph = member_graph meanings

  abbrev edges_by : Option Finding → List ℕ
  edges_by o = option_map_or (members_by meanings.plans) o []

  edges_are : (n : ℕ) → targets graph n ≡ edges_by (slice_get meanings.findings n)
  edges_are n = ap (λ o. unwrap_or o []) (slice_get-map (members_by meanings.plans) meanings.findings n) ∙ by (slice_get meanings.findings n)
    where
      by : (o : Option Finding) → unwrap_or (option_map (members_by meanings.plans) o) [] ≡ edges_by o
      by None = refl
      by (Some found) = refl

  -- an edge leads to a member
  record LeadsTo (l : Located) (n : ℕ) : Type 0 where
    members : List Located
    one : Located
    means : Means on scoping.texts l (OneOf members)
    among : Contains members one
    at : slice_get scoping.located n ≡ Some one

  edge_leads : (l : Located) (plan : Planned) (m : Meaning) → IsPlan scoping.located plan m → Means on scoping.texts l m → (n : ℕ) → Contains (members_in plan) n → LeadsTo l n
  edge_leads l (Members ns) (OneOf ls) is means n h = let r = member_at scoping ns ls is n h in record { members = ls; one = r.0; means = means; among = r.1; at = r.2 }
  edge_leads l (Members ns) m is means n h = absurd is
  edge_leads l (Finished entry ns names) m is means n h = absurd (contains_none n h)
  edge_leads l (Bases ns) m is means n h = absurd (contains_none n h)
  edge_leads l (Leafref path need) m is means n h = absurd (contains_none n h)

  leads_to : (k : ℕ) (l : Located) → slice_get scoping.located k ≡ Some l → (n : ℕ) → Contains (targets graph k) n → LeadsTo l n
  leads_to k l at n edge = by (slice_get meanings.findings k) (are k l at) (subst (λ ns. Contains ns n) (edges_are k) edge)
    where
      by : (o : Option Finding) → IsSomeAnd o (IsFinding on scoping meanings.plans l) → Contains (edges_by o) n → LeadsTo l n
      by None h e = absurd h
      by (Some Nothing) h e = absurd (contains_none n e)
      by (Some (Broken fault)) h e = absurd (contains_none n e)
      by (Some (Plan place)) h e = edge_leads l h.plan h.meaning h.is h.means n (subst (λ o. Contains (option_map_or members_in o []) n) h.there e)

  -- to each member an edge leads
  member_edge : (l : Located) (members : List Located) (one : Located) → Contains members one → (plan : Planned) → IsPlan scoping.located plan (OneOf members) →
      (n : ℕ) × Contains (members_in plan) n × (slice_get scoping.located n ≡ Some one)
  member_edge l members one among (Members ns) is = number_of scoping ns members is one among
  member_edge l members one among (Finished entry ns names) is = absurd is
  member_edge l members one among (Bases ns) is = absurd is
  member_edge l members one among (Leafref path need) is = absurd is

  edge_to : (k : ℕ) (l : Located) → slice_get scoping.located k ≡ Some l → (members : List Located) → Means on scoping.texts l (OneOf members) → (one : Located) → Contains members one →
      (n : ℕ) × Contains (targets graph k) n × (slice_get scoping.located n ≡ Some one)
  edge_to k l at members means one among = by (slice_get meanings.findings k) refl (are k l at)
    where
      by : (o : Option Finding) → slice_get meanings.findings k ≡ o → IsSomeAnd o (IsFinding on scoping meanings.plans l) → (n : ℕ) × Contains (targets graph k) n × (slice_get scoping.located n ≡ Some one)
      by None f h = absurd h
      by (Some Nothing) f h = absurd (h.1 (OneOf members) means)
      by (Some (Broken fault)) f h = absurd (h.1 (OneOf members) means)
      by (Some (Plan place)) f h =
          let same = means_one on scoping.texts l h.meaning (OneOf members) h.means means in
          let r = member_edge l members one among h.plan (subst (IsPlan scoping.located h.plan) same h.is) in
          let row : targets graph k ≡ members_in h.plan = edges_are k ∙ ap edges_by f ∙ ap (λ o. option_map_or members_in o []) h.there in
          (r.0, subst (λ ns. Contains ns r.0) (sym row) r.1, r.2)

  -- ---- what a type, or one to which it leads, lists
  takes_along : (k last : ℕ) → Reaches graph k last → (l : Located) → slice_get scoping.located k ≡ Some l → (text : List ℕ) → names_at meanings last text ≡ true → TakesConditional on scoping.texts l text
  takes_along _ _ (at_once k) l at text e = listed l text (lists_there scoping meanings on are k l at text e)
  takes_along _ _ (onwards k n last edge rest) l at text e =
      let m = leads_to k l at n edge in of_member l m.one m.members text m.means m.among (takes_along n last rest m.one m.at text e)

  names_it : (k : ℕ) (l : Located) → slice_get scoping.located k ≡ Some l → (text : List ℕ) → ListsConditional on scoping.texts l text → names_at meanings k text ≡ true
  names_it k l at text lists = by (names_at meanings k text) refl
    where
      by : (b : Bool) → names_at meanings k text ≡ b → names_at meanings k text ≡ true
      by true e = e
      by false e = absurd (lists_not scoping meanings on are k l at text e lists)

  takes_leads : (l : Located) (text : List ℕ) → TakesConditional on scoping.texts l text → (k : ℕ) → slice_get scoping.located k ≡ Some l → (last : ℕ) × Reaches graph k last × (names_at meanings last text ≡ true)
  takes_leads _ _ (listed l text lists) k at = (k, at_once k, names_it k l at text lists)
  takes_leads _ _ (of_member l one members text means among rest) k at =
      let e = edge_to k l at members means one among in
      let r = takes_leads one text rest e.0 e.2 in
      (r.0, onwards k e.0 r.0 e.1 r.1, r.2)

  found_within : (k : ℕ) (text : List ℕ) → names_at meanings k text ≡ true → k < length graph
  found_within k text e = by (slice_get meanings.findings k) refl e
    where
      by : (o : Option Finding) → slice_get meanings.findings k ≡ o → names_by meanings.plans text o ≡ true → k < length graph
      by None f h = absurd (cc)
      by (Some found) f h = let less = slice_get_within meanings.findings k found f in let same = length-map meanings.findings (members_by meanings.plans) in omega (arith, less, same)

any_there : (test : ℕ → Bool) (ns : List ℕ) → list_any test ns ≡ true → (n : ℕ) × Contains ns n × (test n ≡ true)
any_there test [] e = absurd (cc)
any_there test (m ∷ ns) e = by (test m) refl e (any_there test ns)
  where
    by : (b : Bool) → test m ≡ b → (b || list_any test ns) ≡ true → (list_any test ns ≡ true → (n : ℕ) × Contains ns n × (test n ≡ true)) → (n : ℕ) × Contains (m ∷ ns) n × (test n ≡ true)
    by true f e later = (m, contains_first m ns, f)
    by false f e later = let r = later e in (r.0, Contains-append_right (m ∷ []) ns r.0 r.1, r.2)

any_not : (test : ℕ → Bool) (ns : List ℕ) → list_any test ns ≡ false → (n : ℕ) → Contains ns n → test n ≡ true → ⊥
any_not test [] e n h f = contains_none n h
any_not test (m ∷ ns) e n h f = by (test m) refl e (any_not test ns)
  where
    by : (b : Bool) → test m ≡ b → (b || list_any test ns) ≡ false → (list_any test ns ≡ false → (n : ℕ) → Contains ns n → test n ≡ true → ⊥) → ⊥
    by true g e later = absurd (cc)
    by false g e later = elim (contains_cases m ns n h) [
      | inl same ↦ (let both : test m ≡ true = ap test same ∙ f in absurd (cc))
      | inr rest ↦ later e n rest f
    ]

-- what a type means that takes something
pub means_some : (on : ℕ → List ℕ → Bool) (texts : List Statement) (l : Located) (text : List ℕ) → TakesConditional on texts l text → (m : Meaning) × Means on texts l m
means_some on texts _ _ (listed l text lists) = (lists.meaning, lists.means)
means_some on texts _ _ (of_member l one members text means among rest) = (OneOf members, means)

module _ (scoping : Scoping) (meanings : Meanings) (k : ℕ) (members : List ℕ) (known : IsReachedFrom (member_graph meanings) k members) (on : ℕ → List ℕ → Bool) (are : AreMeanings on scoping meanings) (c : Located) (at : slice_get scoping.located k ≡ Some c) (text : List ℕ) where
  abbrev inner_takes : Bool
  inner_takes = list_any (λ n. names_at meanings n text) members

  takes_there : names_among meanings members k text ≡ true → TakesConditional on scoping.texts c text
  takes_there e = by (names_at meanings k text) refl e
    where
      by : (b : Bool) → names_at meanings k text ≡ b → (b || inner_takes) ≡ true → TakesConditional on scoping.texts c text
      by true f g = listed c text (lists_there scoping meanings on are k c at text f)
      by false f g =
          let r = any_there (λ n. names_at meanings n text) members g in
          takes_along scoping meanings on are k r.0 (known.only r.0 r.1) c at text r.2

  takes_not : names_among meanings members k text ≡ false → TakesConditional on scoping.texts c text → ⊥
  takes_not e takes = let r = takes_leads scoping meanings on are c text takes k at in by k r.0 r.1 refl r.2 (names_at meanings k text) refl e
    where
      by : (n last : ℕ) → Reaches (member_graph meanings) n last → n ≡ k → names_at meanings last text ≡ true → (b : Bool) → names_at meanings k text ≡ b → (b || inner_takes) ≡ false → ⊥
      by n last way same h true f g = absurd (cc)
      by _ _ (at_once n) same h false f g = let both : names_at meanings k text ≡ true = ap (λ z. names_at meanings z text) (sym same) ∙ h in absurd (cc)
      by _ _ (onwards n t last edge rest) same h false f g =
          any_not (λ z. names_at meanings z text) members g last
          (known.all t last (subst (λ z. Contains (targets (member_graph meanings) z) t) same edge) rest (found_within scoping meanings on are last text h)) h

  told_so : (told : Bool) → told ≡ names_among meanings members k text → Decides told (TakesConditional on scoping.texts c text)
  told_so told is = (λ e. takes_there (sym is ∙ e), λ takes. by told refl takes)
    where
      by : (b : Bool) → told ≡ b → TakesConditional on scoping.texts c text → told ≡ true
      by true e takes = e
      by false e takes = absurd (takes_not (sym is ∙ e) takes)

-- what is told of a type is told by the numbers of its members
pub tells_taking : (meanings : Meanings) (k : ℕ) (edges : List (List ℕ)) (members slice : List ℕ) → edges ≡ member_graph meanings → IsReachedFrom edges k members → slice ≡ members → (text : List ℕ) (told : Bool) →
    told ≡ names_among meanings slice k text → TellsTaking meanings k text told
tells_taking meanings k edges members slice is known same text told told_is =
    let reached : IsReachedFrom (member_graph meanings) k slice = subst (IsReachedFrom (member_graph meanings) k) (sym same) (subst (λ g. IsReachedFrom g k members) is known) in
    λ scoping on are l here. told_so scoping meanings k slice reached on are l here text told told_is

-- and of a statement beside it
pub untold_default : (meanings : Meanings) (k : ℕ) (s : Statement) → is_same_keyword Default (kind s) ≡ false → TellsDefault meanings k s false
untold_default meanings k s other = (λ e. absurd (cc (e, other)), λ e. refl)

pub told_default : {E : Type 0} (meanings : Meanings) (k : ℕ) (s : Statement) (text : List ℕ) (result : Result Bool E) → is_same_keyword Default (kind s) ≡ true → text ≡ name s →
    IfOk result (TellsTaking meanings k text) → IfOk result (TellsDefault meanings k s)
told_default meanings k s text (Ok told) it_is same tells = (λ e. subst (λ z. TellsTaking meanings k z told) same tells, λ e. absurd (cc (e, it_is)))
told_default meanings k s text (Err fault) it_is same tells = tt

-- ---- the `default` statements beside a type
module _ (scoping : Scoping) (meanings : Meanings) (n : ℕ) (s : Statement) (number : HasNumber scoping n s) (on : ℕ → List ℕ → Bool) (are : AreMeanings on scoping meanings) (l : Located) (here : slice_get scoping.located n ≡ Some l) where
  same : l.statement ≡ s
  same = statement_is scoping n s l number here

  pub no_type : IsNumber scoping.located None (part_of TypeName l) → (fault : Fault) → DefaultsToConditional on scoping.texts l fault → ⊥
  no_type none fault d = let e : None ≡ Some (Some d.of_type) = none ∙ ap (option_map Some) d.is_type in cc

  abbrev put : Statement → Located
  put t = record { statement = t; place = inside_of l }

  module _ (k : ℕ) (typed : IsNumber scoping.located (Some k) (part_of TypeName l)) where
    pub type_there : (c : Located) × (part_of TypeName l ≡ Some c) × (slice_get scoping.located k ≡ Some c)
    type_there = by (part_of TypeName l) refl typed
      where
        by : (o : Option Located) → part_of TypeName l ≡ o → Some (slice_get scoping.located k) ≡ option_map Some o → (c : Located) × (part_of TypeName l ≡ Some c) × (slice_get scoping.located k ≡ Some c)
        by None none e = absurd (cc)
        by (Some c) is e = (c, is, (let f : slice_get scoping.located k ≡ Some c = cc in f))

    pub default_found : (among : List Statement) → among ≡ below s → (place : ℕ) (t : Statement) (told : Bool) (fault : Fault) → place < length among → t ≡ get_or among place t →
        TellsDefault meanings k t told → told ≡ true → fault ≡ record { line = line t; why = BadArgument } → DefaultsToConditional on scoping.texts l fault
    default_found among among_is place t told fault less is tells so fault_is =
        record {
          of_type = type_there.0;
          is_type = type_there.1;
          place = place;
          default = put t;
          there = child_is scoping meanings n s number on are l here among among_is place t less is;
          is_default = default_it;
          takes = (tells.0 default_it scoping on are type_there.0 type_there.2).0 so;
          at = fault_is;
        }
      where
        by : (b : Bool) → is_same_keyword Default (kind t) ≡ b → is_same_keyword Default (kind t) ≡ true
        by true e = e
        by false e = let f = tells.1 e in absurd (cc (f, so))

        default_it : is_same_keyword Default (kind t) ≡ true
        default_it = by (is_same_keyword Default (kind t)) refl

    -- a `default` in a place is none of those
    abbrev pub IsPassed : ℕ → Type 0
    IsPassed i = (c of_type : Located) → child i l ≡ Some c → part_of TypeName l ≡ Some of_type → is_same_keyword Default (kind c.statement) ≡ true → TakesConditional on scoping.texts of_type (name c.statement) → ⊥

    pub default_step : (among : List Statement) → among ≡ below s → (place : ℕ) (t : Statement) (told : Bool) → place < length among → t ≡ get_or among place t →
        TellsDefault meanings k t told → told ≡ false → ((i : ℕ) → i < place → IsPassed i) → (i : ℕ) → i < place + 1 → IsPassed i
    default_step among among_is place t told less is tells none before i lt c of_type one typed_by is_default takes = by (cases_lt i place)
      where
        by : (i < place) ⊎ (place ≤ i) → ⊥
        by (inl earlier) = before i earlier c of_type one typed_by is_default takes
        by (inr now) =
            let equal : i ≡ place = omega arith in
            let own = child_is scoping meanings n s number on are l here among among_is place t less is in
            let both : Some (put t) ≡ Some c = sym own ∙ ap (λ z. child z l) (sym equal) ∙ one in
            let it : c ≡ put t = cc in
            let default : is_same_keyword Default (kind t) ≡ true = ap (λ z. is_same_keyword Default (kind z.statement)) (sym it) ∙ is_default in
            let two : Some of_type ≡ Some type_there.0 = sym typed_by ∙ type_there.1 in
            let same_type : of_type ≡ type_there.0 = cc in
            let so : told ≡ true = (tells.0 default scoping on are type_there.0 type_there.2).1
            (subst (λ z. TakesConditional on scoping.texts z (name t)) same_type (subst (λ z. TakesConditional on scoping.texts of_type (name z.statement)) it takes)) in
            cc (so, none)

    pub defaults_all : (among : List Statement) → among ≡ below s → (count : ℕ) → length among ≤ count → ((i : ℕ) → i < count → IsPassed i) →
        (fault : Fault) → DefaultsToConditional on scoping.texts l fault → ⊥
    defaults_all among among_is count le none fault d =
        let within : d.place < length (below l.statement) = by (slice_get (below l.statement) d.place) refl d.there in
        let e = ap (λ z. length (below z)) same in
        let f = ap length among_is in
        none d.place (omega arith) d.default d.of_type d.there d.is_type d.is_default d.takes
      where
        by : (o : Option Statement) → slice_get (below l.statement) d.place ≡ o → option_map put o ≡ Some d.default → d.place < length (below l.statement)
        by None none e = absurd (cc)
        by (Some t) there e = get_within (below l.statement) d.place t there
