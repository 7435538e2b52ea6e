-- Two siblings of a data tree: the one whose rows stand first comes before the other.
use Rattle.std.proofs.Common.{◌≡◌, ◌≢◌, ◌⊎◌, ◌<◌, ℕ, suc, Bool, true, false, List, [], ◌∷◌, ◌++◌, length, Option, Some, None, refl, sym, ap, subst, ◌∙◌, inl, inr, arith}
use Rattle.std.proofs.lemmas.Cmp.{ranked}
use Rattle.std.proofs.lemmas.List.{append_assoc, append_cancel_left, append-nil}
use Rattle.std.specs.List.{AllPairs, Contains}
use Rattle.std.specs.Option.{IsSomeAnd}
use Rattle.std.specs.Ordering.{nat_cmp, MatchOrdering}
use Rattle.std.specs.Prelude.{slice_get}
use Rattle.std.specs.declared.cmp.Ordering.{Ordering}
use Rattle.std.specs.declared.cmp.Ordering.TheVariants.{Less, Equal, Greater}
use Rattle.nc_names.specs.declared.path.Path.{Path}
use Rattle.nc_names.specs.declared.path.Row.{Row}
use Rattle.nc_names.specs.declared.path.Step.{Step}
use Rattle.nc_schema.specs.declared.node.Kind.{Kind}
use Rattle.nc_schema.specs.declared.node.Kind.TheVariants.{Container, Leaf, LeafList, List as ListKind}
use Rattle.nc_schema.specs.declared.node.Node.{Node}
use Rattle.nc_schema.specs.Configuration.{IsAtOrBelow, StandTogether, StandsForItself, IsDataTree}
use Rattle.nc_schema.specs.Order.{keys_above, sibling_place, StepBefore, IsBefore}
use Rattle.nc_schema.specs.Paths.{key_count, HasAllKeys, IsStepIn, LeadDown, IsPathOf}
use Rattle.nc_schema.proofs.ProperLemmas.{HoldsNodes, HasProperNodes}
use Rattle.nc_schema.specs.Tables.{Tables}
use Rattle.nc_schema.proofs.OrderLemmas.{same_node, step_total}
use Rattle.nc_schema.specs.Standing.{is_by_user, stands_before, has_entry, entries}
use Rattle.nc_protocol.proofs.EntryLemmas.{entries_in_order, has_its_entry}
use Rattle.nc_protocol.proofs.ListLemmas.{contains_split, heads_same, some_same, contains_here}
use Rattle.nc_protocol.proofs.Parts.{IsPartOf, all_at, pair_at, part_at, part_first, part_second, part_either_way, part_chain, part_ends, cut_thrice}
use Rattle.nc_protocol.proofs.PathViews.{node_after, after_last, parting_order}

pub some_and : {X : Type 0} (o : Option X) (P : X → Type 0) → IsSomeAnd o P → (x : X) × (o ≡ Some x) × P x
some_and None P none = absurd none
some_and (Some x) P p = (x, refl, p)

lead_step : (tables : Tables) (at : Option ℕ) (common : List Step) (step : Step) (rest : List Step) → LeadDown tables at (common ++ step ∷ rest) → IsStepIn tables (node_after at common) step
lead_step tables at [] step rest down = down.0
lead_step tables at (over ∷ common) step rest down = lead_step tables (Some over.node) common step rest down.1

-- a step of a path: its data node stands in that of the step before, and the step has all keys
pub record IsStepAt (tables : Tables) (common : List Step) (step : Step) : Type 0 where
  pub node : Node
  pub node_is : slice_get tables.nodes step.node ≡ Some node
  pub parent : node.parent ≡ node_after None common
  pub keys : HasAllKeys node step

pub path_step : (tables : Tables) (path : Path) (common : List Step) (step : Step) (rest : List Step) → IsPathOf tables path → path.steps ≡ common ++ step ∷ rest → IsStepAt tables common step
path_step tables path common step rest is_path steps =
    by (some_and _ _ (lead_step tables None common step rest (subst (LeadDown tables None) steps is_path.names.down)))
    (some_and _ _ (all_at (λ (s : Step). IsSomeAnd (slice_get tables.nodes s.node) (λ node. HasAllKeys node s)) path.steps step is_path.instances (subst (λ (ss : List Step). Contains ss step) (sym steps) (contains_here common rest step))))
  where
    by : (node : Node) × (slice_get tables.nodes step.node ≡ Some node) × ((node.parent ≡ node_after None common) × (HasAllKeys node step ⊎ (step.keys ≡ []))) →
        (node : Node) × (slice_get tables.nodes step.node ≡ Some node) × HasAllKeys node step → IsStepAt tables common step
    by (node, node_is, (parent, either)) (other, other_is, keys) = record {
      node = node;
      node_is = node_is;
      parent = parent;
      keys = subst (λ (n : Node). HasAllKeys n step) (some_same other node (sym other_is ∙ node_is)) keys;
    }

-- what stands between two rows at or below a node is at or below it
pub together_at : (rows : List Row) (a x b : Row) (steps : List Step) → StandTogether rows → IsPartOf (a ∷ x ∷ b ∷ []) rows →
    IsAtOrBelow steps a.path → IsAtOrBelow steps b.path → IsAtOrBelow steps x.path
together_at rows a x b steps together part below beyond =
    let cut = cut_thrice a x b rows part in
    all_at (λ (inner : Row). IsAtOrBelow steps inner.path) cut.between x (together cut.first cut.between cut.last a b steps cut.whole below beyond) cut.inside

-- the row of an entry: that row itself, or one before it
pub record IsEntryOf (rows : List Row) (steps : List Step) (row : Row) : Type 0 where
  pub entry : Row
  pub path : entry.path.steps ≡ steps
  pub place : (entry ≡ row) ⊎ IsPartOf (entry ∷ row ∷ []) rows

-- a row above another stands before it
pub ancestor : (tables : Tables) (rows : List Row) (row : Row) (above : List Step) (step next : Step) (rest : List Step) (node : Node) → IsDataTree tables rows → Contains rows row →
    row.path.steps ≡ above ++ step ∷ next ∷ rest → slice_get tables.nodes step.node ≡ Some node → StandsForItself node.kind → IsPartOf (record { path = record { steps = above ++ step ∷ [] }; value = None } ∷ row ∷ []) rows
ancestor tables rows row above step next rest node tree has steps node_is itself = by (contains_split rows row has)
  where
    by : (before : List Row) × (behind : List Row) × (rows ≡ before ++ row ∷ behind) → IsPartOf (record { path = record { steps = above ++ step ∷ [] }; value = None } ∷ row ∷ []) rows
    by (before, behind, is) =
        subst (λ (rs : List Row). IsPartOf (record { path = record { steps = above ++ step ∷ [] }; value = None } ∷ row ∷ []) rs) (sym is)
        (part_at before behind _ row (tree.ancestors before behind row above step next rest node is steps (above ++ step ∷ [], refl) node_is itself))

-- a node whose steps have keys stands for itself where a node stands in it
with_keys : (kind : Kind) (keys : ℕ) (count : ℕ) → key_count kind keys ≡ suc count → HoldsNodes kind → StandsForItself kind
with_keys (Container presence) keys count is holds = absurd (omega (arith, is))
with_keys Leaf keys count is holds = absurd holds
with_keys LeafList keys count is holds = absurd holds
with_keys ListKind keys count is holds = tt

pub entry_of : (tables : Tables) (rows : List Row) (row : Row) (common : List Step) (step : Step) (more : List Step) (count : ℕ) → HasProperNodes tables → IsDataTree tables rows → Contains rows row →
    row.path.steps ≡ common ++ step ∷ more → length step.keys ≡ suc count → IsEntryOf rows (common ++ step ∷ []) row
entry_of tables rows row common step [] count proper tree has steps keys = record { entry = row; path = steps; place = inl refl }
entry_of tables rows row common step (next ∷ more) count proper tree has steps keys =
    let is_path = all_at (λ (r : Row). IsPathOf tables r.path) rows row tree.paths has in
    let at = path_step tables row.path common step (next ∷ more) is_path steps in
    let below = path_step tables row.path (common ++ step ∷ []) next more is_path (steps ∙ sym (append_assoc common (step ∷ []) (next ∷ more))) in
    let holds = proper.parents next.node step.node below.node at.node below.node_is (below.parent ∙ after_last None common step) at.node_is in
    record {
      entry = record { path = record { steps = common ++ step ∷ [] }; value = None };
      path = refl;
      place = inr (ancestor tables rows row common step next more at.node tree has steps at.node_is (with_keys at.node.kind (length at.node.keys) count (sym at.keys ∙ keys) holds));
    }

-- two entries that the user orders stand in their order
pub record UserBefore (tables : Tables) (rows : List Row) (common : List Step) (x y : Step) : Type 0 where
  pub same : x.node ≡ y.node
  pub user : is_by_user tables x.node ≡ true
  pub before : stands_before (entries rows common y.node) x.keys y.keys ≡ true
  pub after : stands_before (entries rows common y.node) y.keys x.keys ≡ false
  pub has_first : has_entry x.keys (entries rows common y.node) ≡ true
  pub has_other : has_entry y.keys (entries rows common y.node) ≡ true

-- one sibling before another, in document order or in that of the user
abbrev pub GoesBefore : Tables → List Row → List Step → Step → Step → Type 0
GoesBefore tables rows common x y = StepBefore tables (node_after None common) x y ⊎ UserBefore tables rows common x y

-- a row that is not at or below an entry does not stand between two that are
not_between : (rows : List Row) (r q : Row) (e f : Row) → StandTogether rows → AllPairs (λ (row later : Row). row.path ≢ later.path) rows → IsPartOf (r ∷ q ∷ []) rows →
    (e ≡ r) ⊎ IsPartOf (e ∷ r ∷ []) rows → (f ≡ q) ⊎ IsPartOf (f ∷ q ∷ []) rows →
    IsAtOrBelow f.path.steps q.path → ¬ IsAtOrBelow f.path.steps r.path → IsPartOf (e ∷ f ∷ []) rows
not_between rows r q e f together distinct part e_at f_at q_below r_not = by_f f_at
  where
    apart : (x : Row) → ¬ (x.path ≢ x.path)
    apart x e = e refl

    behind : (x : Row) → (e ≡ r) ⊎ IsPartOf (e ∷ r ∷ []) rows → IsPartOf (r ∷ x ∷ []) rows → IsPartOf (e ∷ x ∷ []) rows
    behind x (inl same) p = subst (λ (v : Row). IsPartOf (v ∷ x ∷ []) rows) (sym same) p
    behind x (inr before) p = part_ends e r x rows (part_chain (λ (row later : Row). row.path ≢ later.path) apart rows e r x distinct before p)

    by_f : (f ≡ q) ⊎ IsPartOf (f ∷ q ∷ []) rows → IsPartOf (e ∷ f ∷ []) rows
    by_f (inl same) = behind f e_at (subst (λ (v : Row). IsPartOf (r ∷ v ∷ []) rows) (sym same) part)
    by_f (inr before) = by_place (part_either_way r f rows (part_first r q rows part) (part_first f q rows before))
      where
        by_place : (r ≡ f) ⊎ IsPartOf (r ∷ f ∷ []) rows ⊎ IsPartOf (f ∷ r ∷ []) rows → IsPartOf (e ∷ f ∷ []) rows
        by_place (inl same) = absurd (r_not ([], ap (λ (row : Row). row.path.steps) same ∙ sym (append-nil f.path.steps)))
        by_place (inr (inl p)) = behind f e_at p
        by_place (inr (inr p)) =
            absurd (r_not (together_at rows f r q f.path.steps together (part_chain (λ (row later : Row). row.path ≢ later.path) apart rows f r q distinct p part) ([], sym (append-nil f.path.steps)) q_below))

-- a node has its own number of keys in each step to it
more_keys : (x y : Step) → x.node ≡ y.node → length x.keys ≡ length y.keys → x ≢ y → (count : ℕ) × (length x.keys ≡ suc count)
more_keys x y same lengths differ = by x.keys y.keys refl refl lengths
  where
    by : (some others : List (List ℕ)) → x.keys ≡ some → y.keys ≡ others → length some ≡ length others → (count : ℕ) × (length some ≡ suc count)
    by [] [] none none' e = absurd (differ (λ i. record { node = same i; keys = (none ∙ sym none') i }))
    by [] (k ∷ ks) none some e = absurd (omega (arith, e))
    by (k ∷ ks) others some others_are e = (length ks, refl)

-- a row at or below x stands before one at or below y, its sibling: x goes before y
pub siblings : (tables : Tables) (rows : List Row) (r q : Row) (common : List Step) (x y : Step) (more others : List Step) →
    HasProperNodes tables → IsDataTree tables rows → IsPartOf (r ∷ q ∷ []) rows → r.path.steps ≡ common ++ x ∷ more → q.path.steps ≡ common ++ y ∷ others → x ≢ y →
    GoesBefore tables rows common x y
siblings tables rows r q common x y more others proper tree part at_x at_y differ = by_place (nat_cmp (place x) (place y)) (ranked (place x) (place y) _ refl)
  where
    place : Step → ℕ
    place step = sibling_place (keys_above tables (node_after None common)) step.node

    has_r : Contains rows r
    has_r = part_first r q rows part

    has_q : Contains rows q
    has_q = part_second r q rows part

    not_after : ¬ StepBefore tables (node_after None common) y x
    not_after before =
        pair_at (λ (row later : Row). ¬ IsBefore tables later.path row.path) rows r q tree.ordered part
        (subst (λ (steps : List Step). IsBefore tables (record { steps = steps }) r.path) (sym at_y)
        (subst (λ (steps : List Step). IsBefore tables (record { steps = common ++ y ∷ others }) (record { steps = steps })) (sym at_x)
        (parting_order tables None common y x others more before)))

    x_at : IsStepAt tables common x
    x_at = path_step tables r.path common x more (all_at (λ (row : Row). IsPathOf tables row.path) rows r tree.paths has_r) at_x

    y_at : IsStepAt tables common y
    y_at = path_step tables q.path common y others (all_at (λ (row : Row). IsPathOf tables row.path) rows q tree.paths has_q) at_y

    by_system : x.node ≡ y.node → is_by_user tables x.node ≡ false → GoesBefore tables rows common x y
    by_system same system = by (step_total tables (node_after None common) x y system)
      where
        by : StepBefore tables (node_after None common) x y ⊎ (x ≡ y) ⊎ StepBefore tables (node_after None common) y x → GoesBefore tables rows common x y
        by (inl before) = inl before
        by (inr (inl is)) = absurd (differ is)
        by (inr (inr after)) = absurd (not_after after)

    by_user : x.node ≡ y.node → is_by_user tables x.node ≡ true → UserBefore tables rows common x y
    by_user same user = record {
      same = same;
      user = user;
      before = order.0;
      after = order.1;
      has_first = has_its_entry rows common y.node x.keys e.entry x_path (part_first e.entry f.entry rows in_order);
      has_other = has_its_entry rows common y.node y.keys f.entry f.path (part_second e.entry f.entry rows in_order);
    }
      where
        node_same : x_at.node ≡ y_at.node
        node_same = some_same _ _ (sym x_at.node_is ∙ ap (slice_get tables.nodes) same ∙ y_at.node_is)

        lengths : length x.keys ≡ length y.keys
        lengths = x_at.keys ∙ ap (λ (n : Node). key_count n.kind (length n.keys)) node_same ∙ sym y_at.keys

        x_keys : (count : ℕ) × (length x.keys ≡ suc count)
        x_keys = more_keys x y same lengths differ

        e : IsEntryOf rows (common ++ x ∷ []) r
        e = entry_of tables rows r common x more x_keys.0 proper tree has_r at_x x_keys.1

        f : IsEntryOf rows (common ++ y ∷ []) q
        f = entry_of tables rows q common y others x_keys.0 proper tree has_q at_y (sym lengths ∙ x_keys.1)

        q_below : IsAtOrBelow f.entry.path.steps q.path
        q_below = (others, at_y ∙ sym (append_assoc common (y ∷ []) others) ∙ ap (λ ss. ss ++ others) (sym f.path))

        r_not : ¬ IsAtOrBelow f.entry.path.steps r.path
        r_not (rest, is) =
            differ (heads_same x y more rest (append_cancel_left common (x ∷ more) (y ∷ rest)
            (sym at_x ∙ is ∙ ap (λ ss. ss ++ rest) f.path ∙ append_assoc common (y ∷ []) rest)))

        in_order : IsPartOf (e.entry ∷ f.entry ∷ []) rows
        in_order = not_between rows r q e.entry f.entry tree.together tree.distinct part e.place f.place q_below r_not

        x_path : e.entry.path.steps ≡ common ++ record { node = y.node; keys = x.keys } ∷ []
        x_path = e.path ∙ (λ i. common ++ record { node = same i; keys = x.keys } ∷ [])

        order : (stands_before (entries rows common y.node) x.keys y.keys ≡ true) × (stands_before (entries rows common y.node) y.keys x.keys ≡ false)
        order = entries_in_order rows common y.node x.keys y.keys e.entry f.entry tree.distinct (λ keys. differ (λ i. record { node = same i; keys = keys i })) x_path f.path in_order

    by_same : x.node ≡ y.node → GoesBefore tables rows common x y
    by_same same = by (is_by_user tables x.node) refl
      where
        by : (b : Bool) → is_by_user tables x.node ≡ b → GoesBefore tables rows common x y
        by true user = inr (by_user same user)
        by false system = by_system same system

    by_place : (o : Ordering) → MatchOrdering o (place x < place y) (place x ≡ place y) (place y < place x) → GoesBefore tables rows common x y
    by_place Less less = inl (inl less)
    by_place Equal same = by_same (same_node (keys_above tables (node_after None common)) x.node y.node same)
    by_place Greater more_is = absurd (not_after (inl more_is))
