-- A key of an entry is put where it is: the rows stay as they are.
use Rattle.std.proofs.Common.{◌≡◌, ◌≢◌, ◌⊎◌, ◌||◌, Bool, true, false, not, List, [], ◌∷◌, ◌++◌, length, Some, None, refl, sym, ap, subst, ◌∙◌, inl, inr}
use Rattle.std.proofs.lemmas.List.{append_assoc, append-nil, nil_from_length}
use Rattle.std.proofs.lemmas.List.Elements.{filter-append}
use Rattle.std.specs.List.{Contains, filter, list_any}
use Rattle.std.specs.Prelude.{slice_get}
use Rattle.nc_names.specs.declared.path.Place.{Place}
use Rattle.nc_names.specs.declared.path.Row.{Row}
use Rattle.nc_names.specs.declared.path.Step.{Step}
use Rattle.nc_schema.specs.declared.node.Kind.TheVariants.{Leaf}
use Rattle.nc_schema.specs.declared.node.Node.{Node}
use Rattle.nc_schema.specs.Configuration.{IsDataTree}
use Rattle.nc_schema.specs.Order.{keys_above, StepBefore, StepsBefore, IsBefore}
use Rattle.nc_schema.specs.Paths.{key_count, IsPathOf}
use Rattle.nc_schema.proofs.ProperLemmas.{HoldsNodes, HasProperNodes}
use Rattle.nc_schema.specs.Tables.{Tables}
use Rattle.nc_schema.proofs.OrderLemmas.{step_irreflexive, step_transitive}
use Rattle.nc_schema.specs.Blocks.{with_block}
use Rattle.nc_names.specs.Same.{is_at_or_below}
use Rattle.nc_schema.specs.Standing.{sibling_before, placed, place_at, entries, steps_before, excludes, cases_of, block_at}
use Rattle.nc_protocol.proofs.BoolLemmas.{is_false, neither}
use Rattle.nc_protocol.proofs.CaseLemmas.{cases_agree, from_cases}
use Rattle.nc_protocol.proofs.KeyLemmas.{filter_takes, filter_leaves, filter_whole, filter_none}
use Rattle.nc_protocol.proofs.ListLemmas.{some_same, contains_here, last_same}
use Rattle.nc_protocol.proofs.Parts.{IsPartOf, part_join, contains_part, part_first, part_second, all_at, pair_at}
use Rattle.nc_protocol.proofs.PathViews.{IsParting, IsHigher, IsLower, view, node_after, after_last, higher_order, before_parting, before_higher, excludes_parting, excludes_higher, excludes_lower}
use Rattle.nc_protocol.proofs.PlaceLemmas.{sibling_from, below_is_below}
use Rattle.nc_protocol.proofs.RiseLemmas.{InUserOrder, sibling_cases, goes_first, not_behind}
use Rattle.nc_protocol.proofs.SiblingLemmas.{IsStepAt, path_step, GoesBefore, siblings}

-- the row of a leaf is put in its place in a data tree of which it is a row
module _ (tables : Tables) (rows : List Row) (place : Place) (proper : HasProperNodes tables) (tree : IsDataTree tables rows) (row : Row) (first last : List Row) (rows_are : rows ≡ first ++ row ∷ last)
    (above : List Step) (step : Step) (node : Node) (steps_are : row.path.steps ≡ above ++ step ∷ []) (node_is : slice_get tables.nodes step.node ≡ Some node) (leaf : node.kind ≡ Leaf) where
  abbrev before : Row → Bool
  before r = steps_before tables rows place [] r.path.steps row.path.steps

  abbrev stays : Row → Bool
  stays r = not (is_at_or_below row.path.steps r.path || list_any (λ added. excludes tables added.path.steps r.path.steps) (row ∷ []))

  has_row : Contains rows row
  has_row = subst (λ (rs : List Row). Contains rs row) (sym rows_are) (contains_here first last row)

  path_of : (r : Row) → Contains rows r → IsPathOf tables r.path
  path_of r has = all_at (λ (x : Row). IsPathOf tables x.path) rows r tree.paths has

  -- nothing is below a leaf
  pub not_below : (r : Row) → Contains rows r → r.path ≢ row.path → ¬ IsLower r.path.steps row.path.steps
  not_below r has differ ([], is) = differ (λ i. record { steps = (is ∙ append-nil row.path.steps) i })
  not_below r has differ (next ∷ rest, is) =
      let at = path_step tables r.path row.path.steps next rest (path_of r has) is in
      let holds = proper.parents next.node step.node at.node node at.node_is (at.parent ∙ ap (node_after None) steps_are ∙ after_last None above step) node_is in
      subst HoldsNodes leaf holds

  -- siblings of a leaf have other nodes
  no_user : (r : Row) → Contains rows r → (common : List Step) (x y : Step) (more : List Step) → r.path.steps ≡ common ++ x ∷ more → row.path.steps ≡ common ++ y ∷ [] → x.node ≡ y.node → x ≡ y
  no_user r has common x y more x_is y_is same = λ i. record { node = same i; keys = (none x x_at.node x_at.keys x_kind ∙ sym (none y y_at.node y_at.keys y_kind)) i }
    where
      x_at : IsStepAt tables common x
      x_at = path_step tables r.path common x more (path_of r has) x_is

      y_at : IsStepAt tables common y
      y_at = path_step tables row.path common y [] (path_of row has_row) y_is

      y_node : y_at.node ≡ node
      y_node = some_same _ _ (sym y_at.node_is ∙ ap (λ s. slice_get tables.nodes s.node) (last_same common above y step (sym y_is ∙ steps_are)) ∙ node_is)

      y_kind : y_at.node.kind ≡ Leaf
      y_kind = ap (λ n. n.kind) y_node ∙ leaf

      x_kind : x_at.node.kind ≡ Leaf
      x_kind = ap (λ n. n.kind) (some_same _ _ (sym x_at.node_is ∙ ap (slice_get tables.nodes) same ∙ y_at.node_is)) ∙ y_kind

      none : (s : Step) (n : Node) → length s.keys ≡ key_count n.kind (length n.keys) → n.kind ≡ Leaf → s.keys ≡ []
      none s n keys kind = nil_from_length s.keys (keys ∙ ap (λ k. key_count k (length n.keys)) kind)

  in_first : (r : Row) → Contains first r → IsPartOf (r ∷ row ∷ []) rows
  in_first r has = subst (λ (rs : List Row). IsPartOf (r ∷ row ∷ []) rs) (sym rows_are) (part_join (r ∷ []) (row ∷ []) first (row ∷ last) (contains_part r first has) (inl (refl, tt)))

  in_last : (r : Row) → Contains last r → IsPartOf (row ∷ r ∷ []) rows
  in_last r has = subst (λ (rs : List Row). IsPartOf (row ∷ r ∷ []) rs) (sym rows_are) (part_join [] (row ∷ r ∷ []) first (row ∷ last) tt (inl (refl, contains_part r last has)))

  has_first : (r : Row) → Contains first r → Contains rows r
  has_first r has = part_first r row rows (in_first r has)

  has_last : (r : Row) → Contains last r → Contains rows r
  has_last r has = part_second row r rows (in_last r has)

  apart_first : (r : Row) → Contains first r → r.path ≢ row.path
  apart_first r has = pair_at (λ (one later : Row). one.path ≢ later.path) rows r row tree.distinct (in_first r has)

  apart_last : (r : Row) → Contains last r → r.path ≢ row.path
  apart_last r has same = pair_at (λ (one later : Row). one.path ≢ later.path) rows row r tree.distinct (in_last r has) (sym same)

  first_before : (r : Row) → Contains first r → before r ≡ true
  first_before r has = by (view r.path.steps row.path.steps)
    where
      by : IsParting r.path.steps row.path.steps ⊎ IsHigher r.path.steps row.path.steps ⊎ IsLower r.path.steps row.path.steps → before r ≡ true
      by (inl p) =
          before_parting tables rows place r.path.steps row.path.steps p
          ∙ go p.others p.other (siblings tables rows r row p.common p.x p.y p.more p.others proper tree (in_first r has) p.one p.other p.differ)
        where
          go : (others : List Step) → row.path.steps ≡ p.common ++ p.y ∷ others → GoesBefore tables rows p.common p.x p.y →
              sibling_before tables (keys_above tables (node_after None p.common)) (placed (place_at place others) p.y.keys (entries rows p.common p.y.node)) p.x p.y ≡ true
          go [] is (inl first_is) = sibling_from tables (node_after None p.common) _ p.x p.y first_is
          go [] is (inr u) = absurd (p.differ (no_user r (has_first r has) p.common p.x p.y p.more p.one is u.same))
          go (s ∷ others) is goes = goes_first tables rows p.common p.x p.y goes
      by (inr (inl h)) = before_higher tables rows place r.path.steps row.path.steps h
      by (inr (inr lower)) = absurd (not_below r (has_first r has) (apart_first r has) lower)

  last_behind : (r : Row) → Contains last r → before r ≡ false
  last_behind r has = is_false (before r) (λ e. by e (view r.path.steps row.path.steps))
    where
      by : before r ≡ true → IsParting r.path.steps row.path.steps ⊎ IsHigher r.path.steps row.path.steps ⊎ IsLower r.path.steps row.path.steps → ⊥
      by e (inl p) =
          go p.others p.other (siblings tables rows row r p.common p.y p.x p.others p.more proper tree (in_last r has) p.other p.one (λ same. p.differ (sym same)))
          (sym (before_parting tables rows place r.path.steps row.path.steps p) ∙ e)
        where
          go : (others : List Step) → row.path.steps ≡ p.common ++ p.y ∷ others → GoesBefore tables rows p.common p.y p.x →
              ¬ (sibling_before tables (keys_above tables (node_after None p.common)) (placed (place_at place others) p.y.keys (entries rows p.common p.y.node)) p.x p.y ≡ true)
          go [] is goes test = at_end is goes (sibling_cases tables (node_after None p.common) _ p.x p.y test)
            where
              at_end : row.path.steps ≡ p.common ++ p.y ∷ [] → GoesBefore tables rows p.common p.y p.x →
                  StepBefore tables (node_after None p.common) p.x p.y ⊎ InUserOrder tables (placed place p.y.keys (entries rows p.common p.y.node)) p.x p.y → ⊥
              at_end is (inl after) (inl first_is) = step_irreflexive tables (node_after None p.common) p.x (step_transitive tables (node_after None p.common) p.x p.y p.x first_is after)
              at_end is (inr u) test_is = p.differ (no_user r (has_last r has) p.common p.x p.y p.more p.one is (sym u.same))
              at_end is (inl after) (inr u) = p.differ (no_user r (has_last r has) p.common p.x p.y p.more p.one is u.same)
          go (s ∷ others) is goes test = not_behind tables rows p.common p.y p.x goes test
      by e (inr (inl h)) =
          pair_at (λ (one later : Row). ¬ IsBefore tables later.path one.path) rows row r tree.ordered (in_last r has)
          (subst (λ (ss : List Step). StepsBefore tables None r.path.steps ss) (sym h.longer) (higher_order tables None r.path.steps h.step h.rest))
      by e (inr (inr lower)) = not_below r (has_last r has) (apart_last r has) lower

  -- rows of one data tree do not exclude each other
  not_excluded : (r : Row) → Contains rows r → excludes tables row.path.steps r.path.steps ≡ false
  not_excluded r has = by (view row.path.steps r.path.steps)
    where
      by : IsParting row.path.steps r.path.steps ⊎ IsHigher row.path.steps r.path.steps ⊎ IsLower row.path.steps r.path.steps → excludes tables row.path.steps r.path.steps ≡ false
      by (inl p) =
          excludes_parting tables row.path.steps r.path.steps p
          ∙ cases_agree (cases_of tables p.x.node) (cases_of tables p.y.node)
          (λ choice case another one other. tree.cases row r p.common p.more p.others p.x p.y choice case another has_row has p.one p.other (from_cases tables p.x.node choice case one) (from_cases tables p.y.node choice another other))
      by (inr (inl h)) = excludes_higher tables row.path.steps r.path.steps h
      by (inr (inr lower)) = excludes_lower tables row.path.steps r.path.steps lower

  not_here : (r : Row) → Contains rows r → r.path ≢ row.path → is_at_or_below row.path.steps r.path ≡ false
  not_here r has differ = is_false _ (λ e. not_below r has differ ((below_is_below row.path.steps r.path).0 e))

  here : is_at_or_below row.path.steps row.path ≡ true
  here = (below_is_below row.path.steps row.path).1 ([], sym (append-nil row.path.steps))

  -- the row is all that is at or below it
  pub block_is_row : block_at rows row.path.steps ≡ row ∷ []
  block_is_row =
      ap (filter is_here) rows_are ∙ filter-append is_here first (row ∷ last)
      ∙ (λ i. filter_none is_here first (λ r has. not_here r (has_first r has) (apart_first r has)) i
      ++ (filter_takes is_here row last here ∙ (λ j. row ∷ filter_none is_here last (λ r has. not_here r (has_last r has) (apart_last r has)) j)) i)
    where
      is_here : Row → Bool
      is_here r = is_at_or_below row.path.steps r.path

  stays_there : (r : Row) → Contains rows r → r.path ≢ row.path → stays r ≡ true
  stays_there r has differ = neither _ _ (not_here r has differ) (ap (λ b. b || false) (not_excluded r has))

  others_are : filter stays rows ≡ first ++ last
  others_are =
      ap (filter stays) rows_are ∙ filter-append stays first (row ∷ last)
      ∙ (λ i. filter_whole stays first (λ r has. stays_there r (has_first r has) (apart_first r has)) i
      ++ (filter_leaves stays row last (ap (λ b. not (b || list_any (λ added. excludes tables added.path.steps row.path.steps) (row ∷ []))) here)
      ∙ filter_whole stays last (λ r has. stays_there r (has_last r has) (apart_last r has))) i)

  pub leaf_is_put : with_block tables rows row.path place (row ∷ []) ≡ rows
  leaf_is_put =
      (λ i. filter before (others_are i) ++ row ∷ [] ++ filter (λ r. not (before r)) (others_are i))
      ∙ (λ i. (filter-append before first last ∙ (λ j. filter_whole before first first_before j ++ filter_none before last last_behind j) ∙ append-nil first) i ++ row ∷ []
      ++ (filter-append (λ r. not (before r)) first last
      ∙ (λ j. filter_none (λ r. not (before r)) first (λ r has. ap not (first_before r has)) j ++ filter_whole (λ r. not (before r)) last (λ r has. ap not (last_behind r has)) j)) i)
      ∙ append_assoc first (row ∷ []) last ∙ sym rows_are
