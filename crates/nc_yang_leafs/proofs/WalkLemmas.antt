-- Plans that are met, one after another.
use Rattle.std.proofs.Common.{inl, inr, ◌≡◌, ◌<◌, ◌≤◌, ◌+◌, ℕ, Bool, true, false, not, List, [], ◌∷◌, ◌++◌, length, get_or, take, refl, sym, ap, ◌∙◌, subst, arith, append_assoc}
use Rattle.std.specs.Prelude.{◌⊎◌, Some, None, slice_get, Contains}
use Rattle.std.specs.Option.{option_map_or}
use Rattle.std.specs.BTreeSet.{contains, keys}
use Rattle.std.specs.Ordering.{nat_cmp}
use Rattle.std.proofs.lemmas.Bool.{cases_eq}
use Rattle.std.proofs.lemmas.List.{append-nil, take_all, take_more}
use Rattle.std.proofs.lemmas.List.Elements.{Contains-append_cases, Contains-append_left, Contains-push}
use Rattle.std.proofs.lemmas.Option.{slice_get_within, slice_get-get_or}
use Rattle.nc_schema.specs.declared.value_type.ValueType.{ValueType}
use Rattle.nc_yang_order.proofs.Lists.{contains_at, contains_none, either, get_none}
use Rattle.nc_yang_scopes.proofs.Lists.{get_left}
use Rattle.nc_yang_types.specs.declared.planned.Finding.{Finding}
use Rattle.nc_yang_types.specs.declared.planned.Meanings.{Meanings}
use Rattle.nc_yang_types.specs.declared.planned.Planned.{Planned}
use Rattle.nc_yang_types.specs.declared.planned.Planned.TheVariants.{Bases, Finished, Leafref, Members}
use Rattle.nc_yang_leafs.specs.Marks.{AreMarks, are_unmarked, is_marked, is_plain, is_unmarked_at, plan_at}
use Rattle.nc_yang_leafs.specs.declared.walk.Walk.{Walk}
use Rattle.nc_yang_leafs.specs.inner.Plans.{ArePlanPaths, IsAmong, IsMember, IsPath, UsesNumber, inner, own}
use Rattle.nc_yang_leafs.specs.inner.Walks.{IsMarkedAmong, IsMarkedAt, IsNext, IsOnWay, IsSeen, Looks, Queues}
use Rattle.nc_yang_scopes.proofs.LinkLists.{contains_cases}
use Rattle.nc_yang_leafs.proofs.Lists.{and_both}

-- the same plans by another name
pub queues_as : (P Q : ℕ → Type 0) (old new : Walk) → ((q : ℕ) → P q → Q q) → ((q : ℕ) → Q q → P q) → Queues P old new → Queues Q old new
queues_as P Q old new to back h = record {
  more = h.more;
  plans = h.plans;
  from = λ q c. to q (h.from q c);
  has = λ seen q asked. h.has seen q (back q asked);
  seen = h.seen;
  paths = h.paths;
}

-- nothing is to be added
pub queues_none : (P : ℕ → Type 0) (walk : Walk) → ((q : ℕ) → P q → ⊥) → Queues P walk walk
queues_none P walk none = record {
  more = [];
  plans = sym (append-nil walk.plans);
  from = λ q c. absurd (contains_none q c);
  has = λ seen q asked. absurd (none q asked);
  seen = λ seen. seen;
  paths = refl;
}

-- some plans and some more
queues_both : (P Q R : ℕ → Type 0) (a b c : Walk) → Queues P a b → Queues Q b c → ((q : ℕ) → R q → P q ⊎ Q q) → ((q : ℕ) → P q → R q) → ((q : ℕ) → Q q → R q) → Queues R a c
queues_both P Q R a b c first second split left right = record {
  more = first.more ++ second.more;
  plans = second.plans ∙ ap (λ z. z ++ second.more) first.plans ∙ append_assoc a.plans first.more second.more;
  from = λ q h. elim (Contains-append_cases first.more second.more q h) [
    | inl x ↦ left q (first.from q x)
    | inr y ↦ right q (second.from q y)
  ];
  has = λ seen q asked. elim (split q asked) [
    | inl x ↦ subst (λ z. Contains z q) (sym second.plans) (Contains-append_left b.plans second.more q (first.has seen q x))
    | inr y ↦ second.has (first.seen seen) q y
  ];
  seen = λ seen. second.seen (first.seen seen);
  paths = second.paths ∙ first.paths;
}

module _ (findings : List Finding) (marks : List Bool) where
  -- no member
  pub members_none : (walk : Walk) → Queues (IsMarkedAmong findings marks []) walk walk
  members_none walk = queues_none (IsMarkedAmong findings marks []) walk (λ q a. contains_none a.0 a.1)

  -- one member more
  pub members_more : (members : List ℕ) (i member : ℕ) (a b c : Walk) → i < length members → member ≡ get_or members i 0 → Queues (IsMarkedAmong findings marks (take i members)) a b →
      Queues (IsMarkedAt findings marks member) b c → Queues (IsMarkedAmong findings marks (take (i + 1) members)) a c
  members_more members i member a b c less is first second =
      subst (λ z. Queues (IsMarkedAmong findings marks z) a c) (sym next)
      (queues_both (IsMarkedAmong findings marks (take i members)) (IsMarkedAt findings marks member) (IsMarkedAmong findings marks (take i members ++ member ∷ [])) a b c first second split
      (λ q x. (x.0, Contains-append_left (take i members) (member ∷ []) x.0 x.1, x.2)) (λ q y. (member, Contains-push (take i members) member, y)))
    where
      next : take (i + 1) members ≡ take i members ++ member ∷ []
      next = take_more members i 0 less ∙ ap (λ z. take i members ++ z ∷ []) (sym is)

      split : (q : ℕ) → IsMarkedAmong findings marks (take i members ++ member ∷ []) q → IsMarkedAmong findings marks (take i members) q ⊎ IsMarkedAt findings marks member q
      split q x = elim (either (take i members) member x.0 x.1) [
        | inl earlier ↦ inl (x.0, earlier, x.2)
        | inr same ↦ inr (subst (λ z. IsMarkedAt findings marks z q) (sym same) x.2)
      ]

  pub members_all : (members : List ℕ) (i : ℕ) (a b : Walk) → length members ≤ i → Queues (IsMarkedAmong findings marks (take i members)) a b → Queues (IsMarkedAmong findings marks members) a b
  members_all members i a b le h = subst (λ z. Queues (IsMarkedAmong findings marks z) a b) (take_all i members le) h

-- what has neither a path nor members
pub looks_none : (meanings : Meanings) (marks : List Bool) (plan : ℕ) (walk : Walk) → ((next : ℕ) → IsMember meanings plan next → ⊥) → ((path : ℕ) → IsPath meanings plan path → ⊥) → Looks meanings marks plan walk walk
looks_none meanings marks plan walk no_member no_path = record {
  more = [];
  plans = sym (append-nil walk.plans);
  from = λ q c. absurd (contains_none q c);
  has = λ seen q m. absurd (no_member q m.0);
  seen = λ seen. seen;
  kept = λ path c. c;
  only = λ path c. inl c;
  all = λ path p. absurd (no_path path p);
}

module _ (meanings : Meanings) (marks : List Bool) (plan : ℕ) where
  pub looks_gone : (walk : Walk) → slice_get meanings.plans plan ≡ None → Looks meanings marks plan walk walk
  looks_gone walk e = looks_none meanings marks plan walk (λ q m. (let f = m.1 in cc)) (λ q p. (let f = p.1 in cc))

  pub looks_plain : (walk : Walk) (planned : Planned) → slice_get meanings.plans plan ≡ Some planned → ((entry : ValueType) × (patterns : List ℕ) × (names : _) × (planned ≡ Finished entry patterns names)) ⊎ ((bases : List ℕ) × (planned ≡ Bases bases)) →
      Looks meanings marks plan walk walk
  looks_plain walk planned e (inl finished) = looks_none meanings marks plan walk (λ q m. (let f = m.1 in let g = finished.3 in cc)) (λ q p. (let f = p.1 in let g = finished.3 in cc))
  looks_plain walk planned e (inr bases) = looks_none meanings marks plan walk (λ q m. (let f = m.1 in let g = bases.1 in cc)) (λ q p. (let f = p.1 in let g = bases.1 in cc))

  pub looks_path : (old : Walk) (paths : List ℕ) (path : ℕ) (need : Bool) → slice_get meanings.plans plan ≡ Some (Leafref path need) → paths ≡ old.paths ++ path ∷ [] →
      Looks meanings marks plan old (record old { paths = paths })
  looks_path old paths path need e is = subst (λ z. Looks meanings marks plan old (record old { paths = z })) (sym is) (record {
    more = [];
    plans = sym (append-nil old.plans);
    from = λ q c. absurd (contains_none q c);
    has = λ seen q m. absurd (let f = m.0.1 in cc);
    seen = λ seen. seen;
    kept = λ p c. Contains-append_left old.paths (path ∷ []) p c;
    only = λ p c. elim (either old.paths path p c) [ inl a ↦ inl a | inr same ↦ inr (need, subst (λ z. slice_get meanings.plans plan ≡ Some (Leafref z need)) same e) ];
    all = λ p h. (let f = h.1 in let same : path ≡ p = cc in subst (λ z. Contains (old.paths ++ path ∷ []) z) same (Contains-push old.paths path));
  })

  pub looks_members : (old new : Walk) (members : List ℕ) → slice_get meanings.plans plan ≡ Some (Members members) → Queues (IsMarkedAmong meanings.findings marks members) old new → Looks meanings marks plan old new
  looks_members old new members e h = record {
    more = h.more;
    plans = h.plans;
    from = λ q c. (let a = h.from q c in (members, e, (a.0, a.1, a.2.0)));
    has = λ seen q m. h.has seen q (
        let f = m.0.1 in
        let same : m.0.0 ≡ members = cc in
        let a = subst (λ z. IsAmong meanings.findings z q) same m.0.2 in (a.0, a.1, (a.2, m.1)));
    seen = h.seen;
    kept = λ p c. subst (λ z. Contains z p) (sym h.paths) c;
    only = λ p c. inl (subst (λ z. Contains z p) h.paths c);
    all = λ p i. absurd (let f = i.1 in cc);
  }

-- a plan that has a path is marked
module _ (meanings : Meanings) (marks : List Bool) (are : AreMarks meanings marks) where
  unmarked_member : (members : List ℕ) (member next : ℕ) → are_unmarked meanings.findings marks members ≡ true → Contains members member → plan_at meanings.findings member ≡ Some next → is_marked marks next ≡ false
  unmarked_member members member next off c at =
      by (is_marked marks next) refl (sym (ap (λ o. option_map_or (λ plan. not (is_marked marks plan)) o false) at) ∙ each members off c)
    where
      by : (b : Bool) → is_marked marks next ≡ b → not (is_marked marks next) ≡ true → is_marked marks next ≡ false
      by true e f = absurd (let g : not (is_marked marks next) ≡ false = ap not e in cc)
      by false e f = e

      each : (members : List ℕ) → are_unmarked meanings.findings marks members ≡ true → Contains members member → is_unmarked_at meanings.findings marks member ≡ true
      each [] off c = absurd (contains_none member c)
      each (first ∷ rest) off c = elim (contains_cases first rest member c) [
        | inl same ↦ (let both = and_both (is_unmarked_at meanings.findings marks first) (are_unmarked meanings.findings marks rest) off in subst (λ z. is_unmarked_at meanings.findings marks z ≡ true) same both.0)
        | inr later ↦ (let both = and_both (is_unmarked_at meanings.findings marks first) (are_unmarked meanings.findings marks rest) off in each rest both.1 later)
      ]

  pub unmarked_has_none : (plan path : ℕ) → UsesNumber meanings plan path → is_marked marks plan ≡ false → ⊥
  unmarked_has_none _ _ (own plan path p) off = let f : is_plain meanings.findings marks (Leafref path p.0) ≡ true = are plan (Leafref path p.0) p.1 off in cc
  unmarked_has_none _ _ (inner plan next path m uses) off =
      unmarked_has_none next path uses (unmarked_member m.0 m.2.0 next (are plan (Members m.0) m.1 off) m.2.1 m.2.2)

  pub marked : (plan path : ℕ) → UsesNumber meanings plan path → is_marked marks plan ≡ true
  marked plan path uses = by (is_marked marks plan) refl
    where
      by : (b : Bool) → is_marked marks plan ≡ b → is_marked marks plan ≡ true
      by true e = e
      by false e = absurd (unmarked_has_none plan path uses e)

  -- so one that is not marked has none
  pub no_paths : (plan : ℕ) → is_marked marks plan ≡ false → ArePlanPaths meanings plan []
  no_paths plan off = record { only = λ path c. absurd (contains_none path c); all = λ path uses. absurd (unmarked_has_none plan path uses off) }

module _ (meanings : Meanings) (marks : List Bool) (top : ℕ) where
  -- where it begins
  pub begins : (old new : Walk) → old.plans ≡ [] → old.paths ≡ [] → keys old.seen ≡ [] → Queues (λ q. q ≡ top) old new → IsOnWay meanings marks top 0 new
  begins old new no_plans no_paths no_keys h = record {
    seen = h.seen blank;
    start = h.has blank top refl;
    within = λ plan path c uses. subst (λ z. UsesNumber meanings z path) (is_top plan c) uses;
    only = λ path c. absurd (contains_none path (subst (λ z. Contains z path) (h.paths ∙ no_paths) c));
    members = λ place plan next less. absurd (omega (arith, less));
    paths = λ place plan path less. absurd (omega (arith, less));
  }
    where
      blank : IsSeen old
      blank = λ plan e. absurd (let f : contains nat_cmp old.seen plan ≡ false = rw no_keys refl in cc)

      is_top : (plan : ℕ) → Contains new.plans plan → plan ≡ top
      is_top plan c = h.from plan (subst (λ z. Contains z plan) (h.plans ∙ ap (λ z. z ++ h.more) no_plans) c)

  -- the next plan is looked at
  pub goes_on : (old new : Walk) (at plan : ℕ) → IsOnWay meanings marks top at old → slice_get old.plans at ≡ Some plan → Looks meanings marks plan old new → IsOnWay meanings marks top (at + 1) new
  goes_on old new at plan way here looks = record {
    seen = looks.seen way.seen;
    start = kept top way.start;
    within = within_top;
    only = λ path c. elim (looks.only path c) [
      | inl earlier ↦ way.only path earlier
      | inr now ↦ way.within plan path (contains_at old.plans at plan here) (own plan path now)
    ];
    members = λ place q next less is m. elim (cases_eq place at) [
      | inl now ↦ looks.has way.seen next (subst (λ z. IsNext meanings marks z next) (same place q now is) m)
      | inr apart ↦ (let l : place < at = omega (arith, less, apart) in kept next (way.members place q next l (before place q l is) m))
    ];
    paths = λ place q path less is p. elim (cases_eq place at) [
      | inl now ↦ looks.all path (subst (λ z. IsPath meanings z path) (same place q now is) p)
      | inr apart ↦ (let l : place < at = omega (arith, less, apart) in looks.kept path (way.paths place q path l (before place q l is) p))
    ];
  }
    where
      within_list : at < length old.plans
      within_list = slice_get_within old.plans at plan here

      kept : (q : ℕ) → Contains old.plans q → Contains new.plans q
      kept q c = subst (λ z. Contains z q) (sym looks.plans) (Contains-append_left old.plans looks.more q c)

      before : (place q : ℕ) → place < at → slice_get new.plans place ≡ Some q → slice_get old.plans place ≡ Some q
      before place q less is = sym (get_left old.plans looks.more place (let l = within_list in omega (arith, less, l))) ∙ ap (λ z. slice_get z place) (sym looks.plans) ∙ is

      same : (place q : ℕ) → place ≡ at → slice_get new.plans place ≡ Some q → q ≡ plan
      same place q now is =
          let e : slice_get old.plans at ≡ Some q = sym (get_left old.plans looks.more at within_list) ∙ ap (λ z. slice_get z at) (sym looks.plans) ∙ subst (λ z. slice_get new.plans z ≡ Some q) now is in
          let f = here in cc

      within_top : (q path : ℕ) → Contains new.plans q → UsesNumber meanings q path → UsesNumber meanings top path
      within_top q path c uses = elim (Contains-append_cases old.plans looks.more q (subst (λ z. Contains z q) looks.plans c)) [
        | inl earlier ↦ way.within q path earlier uses
        | inr added ↦ way.within plan path (contains_at old.plans at plan here) (inner plan q path (looks.from q added) uses)
      ]

  -- the end
  module _ (walk : Walk) (at : ℕ) (are : AreMarks meanings marks) (way : IsOnWay meanings marks top at walk) (none : slice_get walk.plans at ≡ None) where
    reached : (plan path : ℕ) → Contains walk.plans plan → UsesNumber meanings plan path → Contains walk.paths path
    reached _ _ c (own plan path p) = way.paths c.0 plan path (let past = get_none walk.plans at none in let l = c.1 in omega (arith, past, l)) (slice_get-get_or walk.plans c.0 plan c.1 ∙ ap Some c.2) p
    reached _ _ c (inner plan next path m uses) =
        reached next path (way.members c.0 plan next (let past = get_none walk.plans at none in let l = c.1 in omega (arith, past, l)) (slice_get-get_or walk.plans c.0 plan c.1 ∙ ap Some c.2) (m, marked meanings marks are next path uses)) uses

    pub ends : ArePlanPaths meanings top walk.paths
    ends = record { only = way.only; all = λ path uses. reached top path way.start uses }
