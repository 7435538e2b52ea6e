-- Entries in the order of their steps: those at a node, and those at or below one, stand together.
use Rattle.std.proofs.Common.{◌≡◌, ◌==◌, ◌+◌, ◌<◌, ◌≤◌, ◌&&◌, ◌||◌, ◌++◌, ℕ, Bool, true, false, List, [], ◌∷◌, length, not, take, drop, get_or, refl, sym, ap, subst, ◌∙◌, arith, eqb-true}
use Rattle.std.specs.Cmp.{IsTotalOrder}
use Rattle.std.specs.Cmp.Lexicographic.{lists_total}
use Rattle.std.specs.List.{All, starts_with}
use Rattle.std.specs.List.Sorted.{IsPartitionedBy, IsPartitionPoint}
use Rattle.std.specs.Ordering.{is_eq, is_lt, ordering_index, ordering_reverse, ordering_then}
use Rattle.std.specs.Prelude.{nat_lt}
use Rattle.std.specs.declared.cmp.Ordering.{Ordering}
use Rattle.std.specs.declared.cmp.Ordering.TheVariants.{Less, Equal, Greater}
use Rattle.std.proofs.lemmas.Bool.Decides.{nat_tests}
use Rattle.std.proofs.lemmas.Cmp.{nat_cmp_total, on_total, then_total, tied_itself, tied_back}
use Rattle.std.proofs.lemmas.List.{append-nil, get_or-drop, get_or-take, length-append, length-drop, length-take, length-take-le}
use Rattle.std.proofs.lemmas.List.Sorted.{IsPartitionedBy-ltb, ranks_by, searchable_from_sorted, sorted_far}
use Rattle.std.proofs.lemmas.Slice.Eq.{starts_is}
use Rattle.nc_names.specs.Same.{is_same_path, is_same_step}
use Rattle.nc_names.specs.contracts.path.StepOrd.TheImpl.{ghosts}
use Rattle.nc_names.specs.declared.path.Step.{Step}
use Rattle.nc_names.proofs.SameLemmas.{step_decide}
use Rattle.nc_names.proofs.StepOrder.{order_ties, same_path, step_ties}
use Rattle.nc_partial.specs.declared.entry.Entry.{Entry}
use Rattle.nc_partial.specs.inner.Entries.{IsAscending, above_to, is_above, is_at, is_before, of_others, steps_cmp}
use Rattle.nc_partial.proofs.LowestLemmas.{and_or}

pub step_total : IsTotalOrder ghosts.cmp
step_total = then_total (on_total (λ (s : Step). s.node) nat_cmp_total) (on_total (λ (s : Step). s.keys) (lists_total (lists_total nat_cmp_total)))

pub steps_total : IsTotalOrder steps_cmp
steps_total = lists_total step_total

-- ---- steps that begin with others
pub begins_is : (a p : List Step) → starts_with is_same_step a p ≡ true → a ≡ p ++ drop (length p) a
begins_is a p e = (starts_is step_decide a p (starts_with is_same_step a p) refl).0 e

pub is_begins : (a p rest : List Step) → a ≡ p ++ rest → starts_with is_same_step a p ≡ true
is_begins a p rest e = (starts_is step_decide a p (starts_with is_same_step a p) refl).1 rest e

step_same : (x y : Step) → ghosts.cmp x y ≡ Equal → x ≡ y
step_same x y e = (step_decide x y).0 (sym (step_ties x y) ∙ ap is_eq e)

-- what begins with steps is not before them
not_before : (p rest : List Step) → is_lt (steps_cmp (p ++ rest) p) ≡ false
not_before [] [] = refl
not_before [] (x ∷ rest) = refl
not_before (x ∷ p) rest = ap (λ o. is_lt (ordering_then o (steps_cmp (p ++ rest) p))) (tied_itself step_total x) ∙ not_before p rest

-- what stands between steps and what begins with them begins with them
between : (p a rest : List Step) → is_lt (steps_cmp a p) ≡ false → is_lt (steps_cmp (p ++ rest) a) ≡ false → (q : List Step) × (a ≡ p ++ q)
between [] a rest low high = (a, refl)
between (x ∷ p) [] rest low high = absurd (cc)
between (x ∷ p) (y ∷ a) rest low high = by (ghosts.cmp y x) refl (λ below above. between p a rest below above)
  where
    by : (o : Ordering) → ghosts.cmp y x ≡ o → (is_lt (steps_cmp a p) ≡ false → is_lt (steps_cmp (p ++ rest) a) ≡ false → (q : List Step) × (a ≡ p ++ q)) →
        (q : List Step) × ((y ∷ a) ≡ (x ∷ p) ++ q)
    by Less e again =
        let clash : is_lt (ordering_then Less (steps_cmp a p)) ≡ false = subst (λ o. is_lt (ordering_then o (steps_cmp a p)) ≡ false) e low in
        absurd (cc)
    by Equal e again =
        let back : ghosts.cmp x y ≡ Equal = tied_back step_total y x e in
        let more = again
        (subst (λ o. is_lt (ordering_then o (steps_cmp a p)) ≡ false) e low)
        (subst (λ o. is_lt (ordering_then o (steps_cmp (p ++ rest) a)) ≡ false) back high) in
        (more.0, (λ i. step_same y x e i ∷ more.1 i))
    by Greater e again =
        let back : ghosts.cmp x y ≡ Less = step_total.antisymm x y ∙ ap ordering_reverse e in
        let clash : is_lt (ordering_then Less (steps_cmp (p ++ rest) a)) ≡ false = subst (λ o. is_lt (ordering_then o (steps_cmp (p ++ rest) a)) ≡ false) back high in
        absurd (cc)

-- what stands neither before steps nor after them is them
exact : (a p : List Step) → is_lt (steps_cmp a p) ≡ false → is_lt (steps_cmp p a) ≡ false → is_same_path a p ≡ true
exact a p low high = by (steps_cmp a p) refl
  where
    by : (o : Ordering) → steps_cmp a p ≡ o → is_same_path a p ≡ true
    by Less e = let clash : is_lt Less ≡ false = sym (ap is_lt e) ∙ low in absurd (cc)
    by Equal e = sym (order_ties a p) ∙ ap is_eq e
    by Greater e =
        let back : steps_cmp p a ≡ Less = steps_total.antisymm p a ∙ ap ordering_reverse e in
        let clash : is_lt Less ≡ false = sym (ap is_lt back) ∙ high in absurd (cc)

-- ---- entries
pub false_unless : (b : Bool) → (b ≡ true → true ≡ false) → b ≡ false
false_unless true h = h refl
false_unless false h = refl

-- an entry before steps is not at their node, nor below it
pub before_not : (below : Bool) (steps : List Step) (e : Entry) → is_before steps e ≡ true → is_at below steps e ≡ false
before_not true steps e before = false_unless (starts_with is_same_step e.steps steps) (λ at.
    sym before ∙ ap (λ a. is_lt (steps_cmp a steps)) (begins_is e.steps steps at) ∙ not_before steps (drop (length steps) e.steps))
before_not false steps e before = false_unless (is_same_path e.steps steps) (λ at.
    sym before ∙ ap (λ a. is_lt (steps_cmp a steps)) (same_path e.steps steps at ∙ sym (append-nil steps)) ∙ not_before steps [])

-- an entry between the steps and an entry at their node is there
pub past : (below : Bool) (steps : List Step) (e later : Entry) → is_lt (steps_cmp later.steps e.steps) ≡ false → is_before steps e ≡ false → is_at below steps later ≡ true → is_at below steps e ≡ true
past true steps e later order low at =
    let found = between steps e.steps (drop (length steps) later.steps) low
    (subst (λ a. is_lt (steps_cmp a e.steps) ≡ false) (begins_is later.steps steps at) order) in
    is_begins e.steps steps found.0 found.1
past false steps e later order low at =
    exact e.steps steps low (subst (λ a. is_lt (steps_cmp a e.steps) ≡ false) (same_path later.steps steps at) order)

module _ (index : List Entry) (ascending : IsAscending index) (steps : List Step) where
  less_index : (o : Ordering) → nat_lt (ordering_index o) 1 ≡ is_lt o
  less_index Less = refl
  less_index Equal = refl
  less_index Greater = refl

  -- those before the steps come first
  pub parts : IsPartitionedBy (is_before steps) index
  parts =
      let rising = searchable_from_sorted steps_total (λ (e : Entry). e.steps) index steps ascending in
      subst (λ (f : Entry → Bool). IsPartitionedBy f index) (λ i e. less_index (steps_cmp e.steps steps) i)
      (IsPartitionedBy-ltb (λ (e : Entry). ordering_index (steps_cmp e.steps steps)) index 1 rising)

  module _ (below : Bool) (start : ℕ) (parted : IsPartitionPoint (λ e. is_before steps e ≡ true) (λ e. is_before steps e ≡ false) index start) where
    -- none of them is at the node
    pub none_before : (session : ℕ) → All (λ e. of_others session (is_at below steps) e ≡ false) (take start index)
    none_before session k d within =
        let low : k < start = omega (arith, length-take start index, within) in
        let not_at : is_at below steps (get_or (take start index) k d) ≡ false =
        ap (is_at below steps) (get_or-take start index k d low) ∙ before_not below steps (get_or index k d) (parted.0 k d (omega arith) low) in
        let one : Entry = get_or (take start index) k d in
        ap (λ b. not (one.session == session) && b) not_at ∙ and_false (not (one.session == session))
      where
        and_false : (b : Bool) → (b && false) ≡ false
        and_false true = refl
        and_false false = refl

    -- of the others, those at the node come first
    pub front : IsPartitionedBy (is_at below steps) (drop start index)
    front i j d le within at =
        let inside : start + j < length index = omega (arith, length-drop start index, within) in
        let at_later : is_at below steps (get_or index (start + j) d) ≡ true = ap (is_at below steps) (sym (get_or-drop start index j d)) ∙ at in
        ap (is_at below steps) (get_or-drop start index i d)
        ∙ past below steps (get_or index (start + i) d) (get_or index (start + j) d)
        (sorted_far (λ (e : Entry) (f : Entry). is_lt (steps_cmp e.steps f.steps)) (ranks_by steps_total (λ (e : Entry). e.steps)) index ascending (start + i) (start + j) d (omega (arith, le)) inside)
        (parted.1 (start + i) d (omega arith) (omega (arith, le, inside))) at_later

-- ---- the nodes above one
same_at : (a path : List Step) (i : ℕ) → i ≤ length path → is_same_path a (take i path) ≡ (starts_with is_same_step path a && (length a == i))
same_at a path i le = by (length a == i) refl
  where
    by : (b : Bool) → (length a == i) ≡ b → is_same_path a (take i path) ≡ (starts_with is_same_step path a && b)
    by true e = ap (λ n. is_same_path a (take n path)) (sym (eqb-true (length a) i e)) ∙ right (starts_with is_same_step path a)
      where
        right : (b : Bool) → b ≡ (b && true)
        right true = refl
        right false = refl
    by false e = false_unless (is_same_path a (take i path)) clash ∙ left (starts_with is_same_step path a)
      where
        left : (b : Bool) → false ≡ (b && false)
        left true = refl
        left false = refl

        long : is_same_path a (take i path) ≡ true → length a ≡ i
        long same = ap length (same_path a (take i path) same) ∙ length-take-le i path le

        clash : is_same_path a (take i path) ≡ true → true ≡ false
        clash same = sym (ap (λ n. n == i) (long same) ∙ itself i) ∙ e
          where
            itself : (n : ℕ) → (n == n) ≡ true
            itself n = grind (arith, nat_tests)

one_more : (n i : ℕ) → (nat_lt n i || (n == i)) ≡ nat_lt n (i + 1)
one_more n i = grind (arith, nat_tests)

pub above_none : (steps : List Step) (e : Entry) → false ≡ above_to 0 steps e
above_none steps e = by (is_above steps e)
  where
    by : (b : Bool) → false ≡ (b && nat_lt (length e.steps) 0)
    by true = grind (arith, nat_tests)
    by false = refl

pub above_more : (steps : List Step) (i : ℕ) (e : Entry) → i ≤ length steps → (above_to i steps e || is_at false (take i steps) e) ≡ above_to (i + 1) steps e
above_more steps i e le =
    ap (λ b. above_to i steps e || b) (same_at e.steps steps i le)
    ∙ sym (and_or (is_above steps e) (nat_lt (length e.steps) i) (length e.steps == i))
    ∙ ap (λ b. is_above steps e && b) (one_more (length e.steps) i)

pub above_all : (steps : List Step) (i : ℕ) (e : Entry) → length steps < i → above_to i steps e ≡ is_above steps e
above_all steps i e le = by (is_above steps e) refl
  where
    by : (b : Bool) → is_above steps e ≡ b → (b && nat_lt (length e.steps) i) ≡ b
    by false at = refl
    by true at =
        let all : length steps ≡ length e.steps + length (drop (length e.steps) steps) = ap length (begins_is steps e.steps at) ∙ length-append e.steps (drop (length e.steps) steps) in
        short (length e.steps) (length steps) (length (drop (length e.steps) steps)) i all le
      where
        short : (n m k i : ℕ) → m ≡ n + k → m < i → nat_lt n i ≡ true
        short n m k i e le = grind (arith, nat_tests)
