-- A data tree in which the rows at a node give way to others is a data tree.
use Rattle.std.proofs.Common.{◌≡◌, ◌≢◌, ◌⊎◌, ◌||◌, ◌<◌, ℕ, Bool, true, false, not, List, [], ◌∷◌, ◌++◌, Option, Some, None, refl, sym, ap, subst, ◌∙◌, inl, inr, arith}
use Rattle.std.proofs.lemmas.Bool.{not-true}
use Rattle.std.proofs.lemmas.List.{append_assoc, append-nil}
use Rattle.std.proofs.lemmas.List.Elements.{Contains-append_cases}
use Rattle.std.proofs.lemmas.List.Folds.{list_any_none}
use Rattle.std.proofs.lemmas.Option.{slice_get-get_or}
use Rattle.std.specs.List.{All, AllPairs, Contains, filter, list_any}
use Rattle.std.specs.Option.{option_map_or}
use Rattle.std.specs.Prelude.{slice_get}
use Rattle.nc_names.specs.declared.path.Path.{Path}
use Rattle.nc_names.specs.declared.path.Place.{Place}
use Rattle.nc_names.specs.declared.path.Row.{Row}
use Rattle.nc_names.specs.declared.path.Step.{Step}
use Rattle.nc_schema.specs.declared.node.Kind.TheVariants.{List as ListKind}
use Rattle.nc_schema.specs.declared.node.Node.{Node}
use Rattle.nc_schema.specs.Configuration.{IsAtOrBelow, StandTogether, HasItsValue, LeadsTo, KeysFollow, StandsForItself, AncestorsStand, IsInCase, StandsOneCase, IsDataTree, IsSubtree}
use Rattle.nc_schema.specs.Order.{keys_above, sibling_place, StepBefore, StepsBefore, IsBefore}
use Rattle.nc_schema.specs.Paths.{IsPathOf}
use Rattle.nc_schema.proofs.ProperLemmas.{HoldsNodes, HasProperNodes}
use Rattle.nc_schema.specs.Proper.{IsKeyIn}
use Rattle.nc_schema.specs.Tables.{Tables}
use Rattle.nc_schema.proofs.OrderLemmas.{order_is_strict, step_irreflexive, step_transitive}
use Rattle.nc_schema.specs.Blocks.{with_block}
use Rattle.nc_protocol.specs.ProperEdit.{IsNoKey}
use Rattle.nc_names.specs.Same.{is_at_or_below, is_same_step}
use Rattle.nc_schema.specs.Standing.{sibling_before, placed, place_at, entries, steps_before, is_by_user, excludes, cases_differ, cases_of}
use Rattle.nc_protocol.proofs.BlockPlace.{lower_lower, steps_above, steps_across, together_before, together_behind, nothing_below}
use Rattle.nc_protocol.proofs.BoolLemmas.{not_both, neither, is_false}
use Rattle.nc_protocol.proofs.CaseLemmas.{one_case, cases_same, cases_in, in_case, none_differ}
use Rattle.nc_protocol.proofs.KeyLemmas.{keys_follow_filter, keys_follow_append, key_row_is, place_of_key, place_of_other}
use Rattle.nc_protocol.proofs.ListLemmas.{contains_split, none_passes, last_cut, contains_here, too_long}
use Rattle.nc_protocol.proofs.Parts.{IsPartOf, part_of_part, part_filter, part_join, part_front, part_rest, part_two, part_thrice, part_wider, part_kept, part_three, part_first, part_second, contains_part, contains_kept, kept_contains, kept_true, before_cut, part_at, all_at, all_from, pair_at, pairs_from}
use Rattle.nc_protocol.proofs.PathViews.{IsParting, IsHigher, IsLower, view, node_after, after_last, higher_order, order_parting, parting_test, parting_excludes, lower_excludes, higher_excludes, below_parting, below_higher, before_parting, before_higher, excludes_higher, excludes_lower, excludes_below}
use Rattle.nc_protocol.proofs.PlaceLemmas.{sibling_from, below_is_below}
use Rattle.nc_protocol.proofs.RiseLemmas.{InUserOrder, sibling_cases, not_user, rises, filter_cuts}
use Rattle.nc_names.proofs.SameLemmas.{step_decide, steps_differ}
use Rattle.nc_protocol.proofs.SiblingLemmas.{some_and, IsStepAt, path_step, together_at, ancestor}

-- the rows at a node give way to a subtree there; each node above that stands for itself has its row
module _ (tables : Tables) (rows : List Row) (place : Place) (path : Path) (block : List Row) (proper : HasProperNodes tables) (tree : IsDataTree tables rows) (is_path : IsPathOf tables path)
    (no_key : IsNoKey tables path) (sub : IsSubtree tables path.steps block)
    (above_stand : (b : Row) (above : List Step) (step next : Step) (rest : List Step) (node : Node) → Contains block b → path.steps ≡ above ++ step ∷ next ∷ rest →
    slice_get tables.nodes step.node ≡ Some node → StandsForItself node.kind → Contains rows (record { path = record { steps = above ++ step ∷ [] }; value = None })) where
  abbrev before : Row → Bool
  before row = steps_before tables rows place [] row.path.steps path.steps

  abbrev behind : Row → Bool
  behind row = not (before row)

  abbrev stays : Row → Bool
  stays row = not (is_at_or_below path.steps row.path || list_any (λ added. excludes tables added.path.steps row.path.steps) block)

  abbrev others : List Row
  others = filter stays rows

  abbrev front : List Row
  front = filter before others

  abbrev back : List Row
  back = filter behind others

  abbrev left : List Row
  left = front ++ block ++ back

  in_rows : (row : Row) → Contains others row → Contains rows row
  in_rows row has = kept_contains stays row rows has

  not_lower : (row : Row) → Contains others row → ¬ IsLower row.path.steps path.steps
  not_lower row has lower =
      let never = (not_both _ _ (kept_true stays row rows has)).0 in
      let clash : true ≡ false = sym ((below_is_below path.steps row.path).1 lower) ∙ never in
      cc

  not_excluded : (row b : Row) → Contains others row → Contains block b → excludes tables b.path.steps row.path.steps ≡ false
  not_excluded row b has has_b = none_passes (λ added. excludes tables added.path.steps row.path.steps) block b (not_both (is_at_or_below path.steps row.path) _ (kept_true stays row rows has)).1 has_b

  it_stays : (row : Row) → ¬ IsLower row.path.steps path.steps → ((b : Row) → Contains block b → excludes tables b.path.steps row.path.steps ≡ false) → stays row ≡ true
  it_stays row lower excluded =
      neither _ _ (is_false _ (λ e. lower ((below_is_below path.steps row.path).0 e)))
      (list_any_none (λ (added : Row). excludes tables added.path.steps row.path.steps) block (all_from _ block excluded))

  others_part : (zs : List Row) → IsPartOf zs others → IsPartOf zs rows
  others_part zs part = part_of_part zs others rows part (part_filter stays rows)

  cut_is : front ++ back ≡ others
  cut_is =
      filter_cuts before others
      (λ a b part before_b. rises tables rows place path.steps a b proper tree (others_part (a ∷ b ∷ []) part) (not_lower a (part_first a b others part)) (not_lower b (part_second a b others part)) before_b)

  front_in : (row : Row) → Contains front row → Contains others row
  front_in row has = kept_contains before row others has

  back_in : (row : Row) → Contains back row → Contains others row
  back_in row has = kept_contains behind row others has

  front_before : (row : Row) → Contains front row → before row ≡ true
  front_before row has = kept_true before row others has

  back_behind : (row : Row) → Contains back row → ¬ (before row ≡ true)
  back_behind row has e = let never = not-true _ (kept_true behind row others has) in let clash : true ≡ false = sym e ∙ never in cc

  block_lower : (b : Row) → Contains block b → IsLower b.path.steps path.steps
  block_lower b has = all_at (λ (row : Row). IsAtOrBelow path.steps row.path) block b sub.below has

  across : (a b : Row) → Contains front a → Contains back b → IsPartOf (a ∷ b ∷ []) others
  across a b has_a has_b = subst (λ (xs : List Row). IsPartOf (a ∷ b ∷ []) xs) cut_is (part_join (a ∷ []) (b ∷ []) front back (contains_part a front has_a) (contains_part b back has_b))

  -- where a row of the result stands
  in_left : (row : Row) → Contains left row → Contains others row ⊎ Contains block row
  in_left row has = by (Contains-append_cases (front ++ block) back row has)
    where
      by_front : Contains front row ⊎ Contains block row → Contains others row ⊎ Contains block row
      by_front (inl in_front) = inl (front_in row in_front)
      by_front (inr in_block) = inr in_block

      by : Contains (front ++ block) row ⊎ Contains back row → Contains others row ⊎ Contains block row
      by (inl in_first) = by_front (Contains-append_cases front block row in_first)
      by (inr in_back) = inl (back_in row in_back)

  -- where two of them stand
  abbrev PairPlaces : Row → Row → Type 0
  PairPlaces a b = IsPartOf (a ∷ b ∷ []) others ⊎ (Contains front a × Contains block b) ⊎ IsPartOf (a ∷ b ∷ []) block ⊎ (Contains block a × Contains back b)

  pair_in_left : (a b : Row) → IsPartOf (a ∷ b ∷ []) left → PairPlaces a b
  pair_in_left a b part = by (part_two a b (front ++ block) back part)
    where
      by_front : IsPartOf (a ∷ b ∷ []) front ⊎ (Contains front a × Contains block b) ⊎ IsPartOf (a ∷ b ∷ []) block → PairPlaces a b
      by_front (inl p) = inl (part_of_part (a ∷ b ∷ []) front others p (part_filter before others))
      by_front (inr (inl p)) = inr (inl p)
      by_front (inr (inr p)) = inr (inr (inl p))

      by_first : Contains back b → Contains front a ⊎ Contains block a → PairPlaces a b
      by_first has_b (inl has_a) = inl (across a b has_a has_b)
      by_first has_b (inr has_a) = inr (inr (inr (has_a, has_b)))

      by : IsPartOf (a ∷ b ∷ []) (front ++ block) ⊎ (Contains (front ++ block) a × Contains back b) ⊎ IsPartOf (a ∷ b ∷ []) back → PairPlaces a b
      by (inl p) = by_front (part_two a b front block p)
      by (inr (inl (has_a, has_b))) = by_first has_b (Contains-append_cases front block a has_a)
      by (inr (inr p)) = inl (part_of_part (a ∷ b ∷ []) back others p (part_filter behind others))

  -- what holds of each row, and of each two
  left_all : (P : Row → Type 0) → All P rows → All P block → All P left
  left_all P of_rows of_block = all_from P left (λ row has. by row (in_left row has))
    where
      by : (row : Row) → Contains others row ⊎ Contains block row → P row
      by row (inl has) = all_at P rows row of_rows (in_rows row has)
      by row (inr has) = all_at P block row of_block has

  left_pairs : (R : Row → Row → Type 0) → AllPairs R rows → AllPairs R block → ((a b : Row) → Contains front a → Contains block b → R a b) → ((a b : Row) → Contains block a → Contains back b → R a b) → AllPairs R left
  left_pairs R of_rows of_block to_block from_block = pairs_from R left (λ a b part. by a b (pair_in_left a b part))
    where
      by : (a b : Row) → PairPlaces a b → R a b
      by a b (inl part) = pair_at R rows a b of_rows (others_part (a ∷ b ∷ []) part)
      by a b (inr (inl (has_a, has_b))) = to_block a b has_a has_b
      by a b (inr (inr (inl part))) = pair_at R block a b of_block part
      by a b (inr (inr (inr (has_a, has_b)))) = from_block a b has_a has_b

  left_distinct : AllPairs (λ row later. row.path ≢ later.path) left
  left_distinct =
      left_pairs (λ row later. row.path ≢ later.path) tree.distinct sub.distinct
      (λ a b has_a has_b same. not_lower a (front_in a has_a) (subst (λ (p : Path). IsLower p.steps path.steps) (sym same) (block_lower b has_b)))
      (λ a b has_a has_b same. not_lower b (back_in b has_b) (subst (λ (p : Path). IsLower p.steps path.steps) same (block_lower a has_a)))

  -- rows before the place are not behind those at it, in document order, nor are those behind it before
  front_not_behind : (a b : Row) → Contains front a → Contains block b → ¬ IsBefore tables b.path a.path
  front_not_behind a b has_a has_b is_before = by (view a.path.steps path.steps)
    where
      below : IsLower b.path.steps path.steps
      below = block_lower b has_b

      by : IsParting a.path.steps path.steps ⊎ IsHigher a.path.steps path.steps ⊎ IsLower a.path.steps path.steps → ⊥
      by (inl p) = go (sibling_cases tables (node_after None p.common) _ p.x p.y test)
        where
          test : sibling_before tables (keys_above tables (node_after None p.common)) (placed (place_at place p.others) p.y.keys (entries rows p.common p.y.node)) p.x p.y ≡ true
          test = sym (before_parting tables rows place a.path.steps path.steps p) ∙ front_before a has_a

          b_is : b.path.steps ≡ p.common ++ p.y ∷ (p.others ++ below.0)
          b_is = below_parting a.path.steps path.steps b.path.steps p below

          after : StepBefore tables (node_after None p.common) p.y p.x
          after =
              order_parting tables None p.common p.y p.x (p.others ++ below.0) p.more (λ e. p.differ (sym e))
              (subst (λ (ss : List Step). StepsBefore tables None ss (p.common ++ p.x ∷ p.more)) b_is (subst (λ (ss : List Step). StepsBefore tables None b.path.steps ss) p.one is_before))

          go : StepBefore tables (node_after None p.common) p.x p.y ⊎ InUserOrder tables (placed (place_at place p.others) p.y.keys (entries rows p.common p.y.node)) p.x p.y → ⊥
          go (inl first) = step_irreflexive tables (node_after None p.common) p.x (step_transitive tables (node_after None p.common) p.x p.y p.x first after)
          go (inr u) = not_user tables (node_after None p.common) p.y p.x after (sym u.same) (ap (λ n. is_by_user tables n) (sym u.same) ∙ u.user)
      by (inr (inl h)) =
          order_is_strict.irreflexive tables a.path (order_is_strict.transitive tables a.path b.path a.path
          (subst (λ (ss : List Step). StepsBefore tables None a.path.steps ss)
          (sym (below_higher a.path.steps path.steps b.path.steps h below))
          (higher_order tables None a.path.steps h.step (h.rest ++ below.0))) is_before)
      by (inr (inr lower)) = not_lower a (front_in a has_a) lower

  back_not_before : (a b : Row) → Contains block a → Contains back b → ¬ IsBefore tables b.path a.path
  back_not_before a b has_a has_b is_before = by (view b.path.steps path.steps)
    where
      below : IsLower a.path.steps path.steps
      below = block_lower a has_a

      by : IsParting b.path.steps path.steps ⊎ IsHigher b.path.steps path.steps ⊎ IsLower b.path.steps path.steps → ⊥
      by (inl p) =
          back_behind b has_b
          (before_parting tables rows place b.path.steps path.steps p ∙ sibling_from tables (node_after None p.common) _ p.x p.y first)
        where
          first : StepBefore tables (node_after None p.common) p.x p.y
          first =
              order_parting tables None p.common p.x p.y p.more (p.others ++ below.0) p.differ
              (subst (λ (ss : List Step). StepsBefore tables None ss (p.common ++ p.y ∷ (p.others ++ below.0))) p.one
              (subst (λ (ss : List Step). StepsBefore tables None b.path.steps ss) (below_parting b.path.steps path.steps a.path.steps p below) is_before))
      by (inr (inl h)) = back_behind b has_b (before_higher tables rows place b.path.steps path.steps h)
      by (inr (inr lower)) = not_lower b (back_in b has_b) lower

  -- what stands together in the tree and in the block
  left_together : StandTogether left
  left_together first between last a b steps is at_a at_b =
      all_from (λ (inner : Row). IsAtOrBelow steps inner.path) between
      (λ x has. by x (part_thrice a x b (front ++ block) back (subst (λ (rs : List Row). IsPartOf (a ∷ x ∷ b ∷ []) rs) (sym is) (part_three first between last a x b has))))
    where
      in_tree : (x : Row) → IsPartOf (a ∷ x ∷ b ∷ []) others → IsAtOrBelow steps x.path
      in_tree x part = together_at rows a x b steps tree.together (others_part (a ∷ x ∷ b ∷ []) part) at_a at_b

      -- a path above the place is one above each row of the block
      in_block : (x : Row) → IsLower path.steps steps → Contains block x → IsAtOrBelow steps x.path
      in_block x above has = lower_lower x.path.steps path.steps steps (block_lower x has) above

      by_front : (x : Row) → IsPartOf (a ∷ x ∷ b ∷ []) front ⊎ (IsPartOf (a ∷ x ∷ []) front × Contains block b) ⊎ (Contains front a × IsPartOf (x ∷ b ∷ []) block) ⊎ IsPartOf (a ∷ x ∷ b ∷ []) block → IsAtOrBelow steps x.path
      by_front x (inl part) = in_tree x (part_of_part (a ∷ x ∷ b ∷ []) front others part (part_filter before others))
      by_front x (inr (inl (part, has_b))) =
          let has_a = part_first a x front part in
          let above = steps_above tables rows place path.steps proper tree steps a b at_a (not_lower a (front_in a has_a)) at_b (block_lower b has_b) in
          together_before tables rows place path.steps proper tree steps a x (others_part (a ∷ x ∷ []) (part_of_part (a ∷ x ∷ []) front others part (part_filter before others)))
          above at_a (not_lower a (front_in a has_a)) (front_before x (part_second a x front part))
      by_front x (inr (inr (inl (has_a, part)))) =
          let has_b = part_second x b block part in
          in_block x (steps_above tables rows place path.steps proper tree steps a b at_a (not_lower a (front_in a has_a)) at_b (block_lower b has_b)) (part_first x b block part)
      by_front x (inr (inr (inr part))) = together_at block a x b steps sub.together part at_a at_b

      by_two : (x : Row) → Contains back b → IsPartOf (a ∷ x ∷ []) front ⊎ (Contains front a × Contains block x) ⊎ IsPartOf (a ∷ x ∷ []) block → IsAtOrBelow steps x.path
      by_two x has_b (inl part) =
          in_tree x (subst (λ (rs : List Row). IsPartOf (a ∷ x ∷ b ∷ []) rs) cut_is (part_join (a ∷ x ∷ []) (b ∷ []) front back part (contains_part b back has_b)))
      by_two x has_b (inr (inl (has_a, has_x))) =
          in_block x (steps_across tables rows place path.steps proper tree steps a b at_a at_b (not_lower a (front_in a has_a)) (front_before a has_a) (back_behind b has_b)) has_x
      by_two x has_b (inr (inr part)) =
          in_block x (steps_above tables rows place path.steps proper tree steps b a at_b (not_lower b (back_in b has_b)) at_a (block_lower a (part_first a x block part))) (part_second a x block part)

      by_one : (x : Row) → IsPartOf (x ∷ b ∷ []) back → Contains front a ⊎ Contains block a → IsAtOrBelow steps x.path
      by_one x part (inl has_a) =
          in_tree x (subst (λ (rs : List Row). IsPartOf (a ∷ x ∷ b ∷ []) rs) cut_is (part_join (a ∷ []) (x ∷ b ∷ []) front back (contains_part a front has_a) part))
      by_one x part (inr has_a) =
          let has_b = part_second x b back part in
          let above = steps_above tables rows place path.steps proper tree steps b a at_b (not_lower b (back_in b has_b)) at_a (block_lower a has_a) in
          together_behind tables rows place path.steps proper tree steps x b (others_part (x ∷ b ∷ []) (part_of_part (x ∷ b ∷ []) back others part (part_filter behind others)))
          above at_b (not_lower b (back_in b has_b)) (back_behind x (part_first x b back part))

      by : (x : Row) → IsPartOf (a ∷ x ∷ b ∷ []) (front ++ block) ⊎ (IsPartOf (a ∷ x ∷ []) (front ++ block) × Contains back b) ⊎ (Contains (front ++ block) a × IsPartOf (x ∷ b ∷ []) back) ⊎ IsPartOf (a ∷ x ∷ b ∷ []) back → IsAtOrBelow steps x.path
      by x (inl part) = by_front x (part_thrice a x b front block part)
      by x (inr (inl (part, has_b))) = by_two x has_b (part_two a x front block part)
      by x (inr (inr (inl (has_a, part)))) = by_one x part (Contains-append_cases front block a has_a)
      by x (inr (inr (inr part))) = in_tree x (part_of_part (a ∷ x ∷ b ∷ []) back others part (part_filter behind others))

  -- a row of another case goes; the others are of the same
  across_cases : (b row : Row) (above rest beyond : List Step) (step beside : Step) (choice case another : ℕ) → Contains block b → Contains others row →
      b.path.steps ≡ above ++ step ∷ rest → row.path.steps ≡ above ++ beside ∷ beyond → IsInCase tables step.node choice case → IsInCase tables beside.node choice another → case ≡ another
  across_cases b row above rest beyond step beside choice case another has_b has_row b_is row_is in_one in_other = by (is_same_step step beside) refl
    where
      by : (same : Bool) → is_same_step step beside ≡ same → case ≡ another
      by true e = one_case tables proper beside.node choice case another (subst (λ (s : Step). IsInCase tables s.node choice case) ((step_decide step beside).0 e) in_one) in_other
      by false e =
          cases_same (cases_of tables step.node) (cases_of tables beside.node) choice case another
          (sym (parting_excludes tables above step beside rest beyond (steps_differ step beside e))
          ∙ ap (λ ss. excludes tables ss (above ++ beside ∷ beyond)) (sym b_is) ∙ ap (λ ss. excludes tables b.path.steps ss) (sym row_is) ∙ not_excluded row b has_row has_b)
          (in_case tables step.node choice case in_one) (in_case tables beside.node choice another in_other)

  left_cases : StandsOneCase tables left
  left_cases a b above rest beyond step beside choice case another has_a has_b a_is b_is in_one in_other = by (in_left a has_a) (in_left b has_b)
    where
      by : Contains others a ⊎ Contains block a → Contains others b ⊎ Contains block b → case ≡ another
      by (inl a_in) (inl b_in) = tree.cases a b above rest beyond step beside choice case another (in_rows a a_in) (in_rows b b_in) a_is b_is in_one in_other
      by (inr a_in) (inr b_in) = sub.cases a b above rest beyond step beside choice case another a_in b_in a_is b_is in_one in_other
      by (inr a_in) (inl b_in) = across_cases a b above rest beyond step beside choice case another a_in b_in a_is b_is in_one in_other
      by (inl a_in) (inr b_in) = sym (across_cases b a above beyond rest beside step choice another case b_in a_in b_is a_is in_other in_one)

  abbrev keys_in_node : Option Node → List ℕ
  keys_in_node o = option_map_or (λ node. node.keys) o []

  -- an entry of a list and one of its keys
  key_is_leaf : (entry : Step) (node : Node) (number : ℕ) → slice_get tables.nodes entry.node ≡ Some node → Contains node.keys number → (leaf : Node) × (slice_get tables.nodes number ≡ Some leaf) × IsKeyIn entry.node leaf
  key_is_leaf entry node number node_is has = some_and (slice_get tables.nodes number) (IsKeyIn entry.node) (proper.keys entry.node number node node_is has)

  -- the place is not at or below a key of a list
  not_at_key : (above : List Step) (entry key : Step) (rest : List Step) (node : Node) → slice_get tables.nodes entry.node ≡ Some node → node.kind ≡ ListKind → path.steps ≡ above ++ entry ∷ key ∷ rest → ¬ Contains node.keys key.node
  not_at_key above entry key [] node node_is list steps (k, within, here) =
      no_key entry k (record { above = above; key = key; node = node; steps = steps; node_is = node_is; list = list; key_is = slice_get-get_or node.keys k key.node within ∙ ap Some here })
  not_at_key above entry key (next ∷ rest) node node_is list steps has = by (key_is_leaf entry node key.node node_is has)
    where
      longer : path.steps ≡ (above ++ entry ∷ key ∷ []) ++ next ∷ rest
      longer = steps ∙ sym (append_assoc above (entry ∷ key ∷ []) (next ∷ rest))

      below : IsStepAt tables (above ++ entry ∷ key ∷ []) next
      below = path_step tables path (above ++ entry ∷ key ∷ []) next rest is_path longer

      parent : node_after None (above ++ entry ∷ key ∷ []) ≡ Some key.node
      parent = ap (node_after None) (sym (append_assoc above (entry ∷ []) (key ∷ []))) ∙ after_last None (above ++ entry ∷ []) key

      by : (leaf : Node) × (slice_get tables.nodes key.node ≡ Some leaf) × IsKeyIn entry.node leaf → ⊥
      by (leaf, leaf_is, is_key) =
          subst HoldsNodes is_key.kind (proper.parents next.node key.node below.node leaf below.node_is (below.parent ∙ parent) leaf_is)

  -- a key row stays where its entry does
  module _ (row : Row) (above : List Step) (entry : Step) (node : Node) (key : Row) (leads : LeadsTo tables above entry node row) (list : node.kind ≡ ListKind)
      (number : ℕ) (is_of : Contains node.keys number) (key_is : key.path.steps ≡ row.path.steps ++ record { node = number; keys = [] } ∷ []) where
    abbrev key_step : Step
    key_step = record { node = number; keys = [] }

    longer : (rest : List Step) → row.path.steps ++ rest ≡ above ++ entry ∷ rest
    longer rest = ap (λ ss. ss ++ rest) leads.path ∙ append_assoc above (entry ∷ []) rest

    key_not_lower : ¬ IsLower row.path.steps path.steps → ¬ IsLower key.path.steps path.steps
    key_not_lower row_not (rest, is) = by (last_cut row.path.steps path.steps rest key_step (sym key_is ∙ is))
      where
        by : (rest ≡ []) ⊎ ((more : List Step) × (row.path.steps ≡ path.steps ++ more)) → ⊥
        by (inl none) = not_at_key above entry key_step [] node leads.node_is list (sym (append-nil path.steps) ∙ ap (λ ss. path.steps ++ ss) (sym none) ∙ sym is ∙ key_is ∙ longer (key_step ∷ [])) is_of
        by (inr lower) = row_not lower

    no_cases : cases_of tables number ≡ []
    no_cases = by (key_is_leaf entry node number leads.node_is is_of)
      where
        by : (leaf : Node) × (slice_get tables.nodes number ≡ Some leaf) × IsKeyIn entry.node leaf → cases_of tables number ≡ []
        by (leaf, leaf_is, is_key) = ap cases_in leaf_is ∙ is_key.cases

    key_not_excluded : (b : Row) → Contains block b → ¬ IsLower row.path.steps path.steps → excludes tables b.path.steps row.path.steps ≡ false → excludes tables b.path.steps key.path.steps ≡ false
    key_not_excluded b has row_not never = ap (λ ss. excludes tables b.path.steps ss) key_is ∙ by (view b.path.steps row.path.steps)
      where
        last : (rest : List Step) → excludes tables (row.path.steps ++ rest) (row.path.steps ++ key_step ∷ []) ≡ false
        last [] = ap (λ ss. excludes tables ss (row.path.steps ++ key_step ∷ [])) (append-nil row.path.steps) ∙ higher_excludes tables row.path.steps (key_step ∷ [])
        last (next ∷ rest) = go (is_same_step next key_step) refl
          where
            go : (same : Bool) → is_same_step next key_step ≡ same → excludes tables (row.path.steps ++ next ∷ rest) (row.path.steps ++ key_step ∷ []) ≡ false
            go true e =
                ap (λ st. excludes tables (row.path.steps ++ st ∷ rest) (row.path.steps ++ key_step ∷ [])) ((step_decide next key_step).0 e)
                ∙ ap (λ ss. excludes tables ss (row.path.steps ++ key_step ∷ [])) (sym (append_assoc row.path.steps (key_step ∷ []) rest))
                ∙ lower_excludes tables (row.path.steps ++ key_step ∷ []) rest
            go false e =
                parting_excludes tables row.path.steps next key_step rest [] (steps_differ next key_step e)
                ∙ ap (cases_differ (cases_of tables next.node)) no_cases ∙ none_differ (cases_of tables next.node)

        by : IsParting b.path.steps row.path.steps ⊎ IsHigher b.path.steps row.path.steps ⊎ IsLower b.path.steps row.path.steps → excludes tables b.path.steps (row.path.steps ++ key_step ∷ []) ≡ false
        by (inl p) = excludes_below tables b.path.steps row.path.steps (row.path.steps ++ key_step ∷ []) p (key_step ∷ [], refl) ∙ never
        by (inr (inl h)) = absurd (row_not (lower_lower row.path.steps b.path.steps path.steps (h.step ∷ h.rest, h.longer) (block_lower b has)))
        by (inr (inr lower)) = ap (λ ss. excludes tables ss (row.path.steps ++ key_step ∷ [])) lower.1 ∙ last lower.0

    key_stays : stays row ≡ true → stays key ≡ true
    key_stays stay =
        let parts = not_both (is_at_or_below path.steps row.path) _ stay in
        let row_not : ¬ IsLower row.path.steps path.steps = λ lower. let clash : true ≡ false = sym ((below_is_below path.steps row.path).1 lower) ∙ parts.0 in cc in
        it_stays key (key_not_lower row_not)
        (λ b has. key_not_excluded b has row_not (none_passes (λ added. excludes tables added.path.steps row.path.steps) block b parts.1 has))

    -- the key row is before the place where its entry is, and only there
    key_before : ¬ IsLower row.path.steps path.steps → before key ≡ before row
    key_before row_not = ap (λ ss. steps_before tables rows place [] ss path.steps) key_is ∙ by (view row.path.steps path.steps)
      where
        by : IsParting row.path.steps path.steps ⊎ IsHigher row.path.steps path.steps ⊎ IsLower row.path.steps path.steps → steps_before tables rows place [] (row.path.steps ++ key_step ∷ []) path.steps ≡ before row
        by (inl p) =
            ap (λ ss. steps_before tables rows place [] ss path.steps) (ap (λ ss. ss ++ key_step ∷ []) p.one ∙ append_assoc p.common (p.x ∷ p.more) (key_step ∷ []))
            ∙ ap (λ ss. steps_before tables rows place [] (p.common ++ p.x ∷ (p.more ++ key_step ∷ [])) ss) p.other
            ∙ parting_test tables rows place [] p.common p.x p.y (p.more ++ key_step ∷ []) p.others p.differ
            ∙ sym (before_parting tables rows place row.path.steps path.steps p)
        by (inr (inl h)) =
            ap (λ ss. steps_before tables rows place [] (row.path.steps ++ key_step ∷ []) ss) h.longer
            ∙ parting_test tables rows place [] row.path.steps key_step h.step [] h.rest differ
            ∙ sibling_from tables (node_after None row.path.steps) _ key_step h.step (inl less)
            ∙ sym (before_higher tables rows place row.path.steps path.steps h)
          where
            other : ¬ Contains node.keys h.step.node
            other = not_at_key above entry h.step h.rest node leads.node_is list (h.longer ∙ longer (h.step ∷ h.rest))

            differ : key_step ≢ h.step
            differ same = other (subst (λ (s : Step). Contains node.keys s.node) same is_of)

            keys_are : keys_above tables (node_after None row.path.steps) ≡ node.keys
            keys_are = ap (λ ss. keys_above tables (node_after None ss)) leads.path ∙ ap (keys_above tables) (after_last None above entry) ∙ ap keys_in_node leads.node_is

            less : sibling_place (keys_above tables (node_after None row.path.steps)) number < sibling_place (keys_above tables (node_after None row.path.steps)) h.step.node
            less = subst (λ (ks : List ℕ). sibling_place ks number < sibling_place ks h.step.node) (sym keys_are) (omega (arith, place_of_key node.keys number is_of, place_of_other node.keys h.step.node other))
        by (inr (inr lower)) = absurd (row_not lower)

  others_keys : KeysFollow tables others
  others_keys =
      keys_follow_filter tables rows stays tree.keys
      (λ row above step node key has leads list is_key stay.
      let found = key_row_is row.path.steps node.keys step.keys key is_key in
      key_stays row above step node key leads list found.0 found.1 found.2 stay)

  keys_kept : (test : Row → Bool) → ((row key : Row) → Contains others row → before key ≡ before row → test row ≡ true → test key ≡ true) → KeysFollow tables (filter test others)
  keys_kept test same =
      keys_follow_filter tables others test others_keys
      (λ row above step node key has leads list is_key.
      let found = key_row_is row.path.steps node.keys step.keys key is_key in
      same row key has (key_before row above step node key leads list found.0 found.1 found.2 (not_lower row has)))

  left_keys : KeysFollow tables left
  left_keys =
      keys_follow_append tables (front ++ block) back
      (keys_follow_append tables front block (keys_kept before (λ row key has same e. same ∙ e)) sub.keys)
      (keys_kept behind (λ row key has same e. ap not same ∙ e))

  -- the rows above a row of the block, or of the others
  left_ancestors : AncestorsStand tables [] left
  left_ancestors start after row above step next rest node is row_is below_root node_is itself =
      before_cut (λ (one later : Row). one.path ≢ later.path) (λ x differ. differ refl) left start after over row left_distinct is (by (in_left row has_row))
    where
      over : Row
      over = record { path = record { steps = above ++ step ∷ [] }; value = None }

      has_row : Contains left row
      has_row = subst (λ (rs : List Row). Contains rs row) (sym is) (contains_here start after row)

      below : IsLower row.path.steps (above ++ step ∷ [])
      below = (next ∷ rest, row_is ∙ sym (append_assoc above (step ∷ []) (next ∷ rest)))

      -- what excludes a row excludes those below it
      excluded_below : (b : Row) → Contains block b → Contains others row → excludes tables b.path.steps (above ++ step ∷ []) ≡ false
      excluded_below b has_b has = go (view b.path.steps (above ++ step ∷ []))
        where
          go : IsParting b.path.steps (above ++ step ∷ []) ⊎ IsHigher b.path.steps (above ++ step ∷ []) ⊎ IsLower b.path.steps (above ++ step ∷ []) → excludes tables b.path.steps (above ++ step ∷ []) ≡ false
          go (inl p) = sym (excludes_below tables b.path.steps (above ++ step ∷ []) row.path.steps p below) ∙ not_excluded row b has has_b
          go (inr (inl h)) = excludes_higher tables b.path.steps (above ++ step ∷ []) h
          go (inr (inr lower)) = excludes_lower tables b.path.steps (above ++ step ∷ []) lower

      of_others : Contains others row → IsPartOf (over ∷ row ∷ []) left
      of_others has =
          let part = ancestor tables rows row above step next rest node tree (in_rows row has) row_is node_is itself in
          let over_not : ¬ IsLower over.path.steps path.steps = λ lower. not_lower row has (lower_lower row.path.steps (above ++ step ∷ []) path.steps below lower) in
          let kept = part_kept stays over row rows part (it_stays over over_not (λ b has_b. excluded_below b has_b has)) (kept_true stays row rows has) in
          part_wider (over ∷ row ∷ []) front block back (subst (λ (rs : List Row). IsPartOf (over ∷ row ∷ []) rs) (sym cut_is) kept)

      in_block : IsPartOf (over ∷ row ∷ []) block → IsPartOf (over ∷ row ∷ []) left
      in_block part = part_of_part (over ∷ row ∷ []) block left part (part_of_part block (front ++ block) left (part_rest front block) (part_front (front ++ block) back))

      of_block : Contains block row → IsPartOf (over ∷ row ∷ []) left
      of_block has = go (view (above ++ step ∷ []) path.steps)
        where
          lower : IsLower row.path.steps path.steps
          lower = block_lower row has

          inside : IsAtOrBelow path.steps over.path → IsPartOf (over ∷ row ∷ []) left
          inside at = cut (contains_split block row has)
            where
              cut : (first : List Row) × (last : List Row) × (block ≡ first ++ row ∷ last) → IsPartOf (over ∷ row ∷ []) left
              cut (first, last, block_is) =
                  in_block (subst (λ (rs : List Row). IsPartOf (over ∷ row ∷ []) rs) (sym block_is)
                  (part_at first last over row (sub.ancestors first last row above step next rest node block_is row_is at node_is itself)))

          outside : IsHigher (above ++ step ∷ []) path.steps → IsPartOf (over ∷ row ∷ []) left
          outside h =
              let path_is : path.steps ≡ above ++ step ∷ h.step ∷ h.rest = h.longer ∙ append_assoc above (step ∷ []) (h.step ∷ h.rest) in
              let has_over = above_stand row above step h.step h.rest node has path_is node_is itself in
              let over_not : ¬ IsLower over.path.steps path.steps = λ at. too_long (above ++ step ∷ []) h.step h.rest at.0 (at.1 ∙ ap (λ ss. ss ++ at.0) h.longer) in
              let free : (b : Row) → Contains block b → excludes tables b.path.steps over.path.steps ≡ false =
              λ b has_b. let at = block_lower b has_b in excludes_lower tables b.path.steps (above ++ step ∷ []) (h.step ∷ (h.rest ++ at.0), below_higher (above ++ step ∷ []) path.steps b.path.steps h at) in
              let in_others = contains_kept stays over rows has_over (it_stays over over_not free) in
              let is_before : before over ≡ true = before_higher tables rows place (above ++ step ∷ []) path.steps h in
              let in_front = contains_kept before over others in_others is_before in
              part_of_part (over ∷ row ∷ []) (front ++ block) left (part_join (over ∷ []) (row ∷ []) front block (contains_part over front in_front) (contains_part row block has)) (part_front (front ++ block) back)

          go : IsParting (above ++ step ∷ []) path.steps ⊎ IsHigher (above ++ step ∷ []) path.steps ⊎ IsLower (above ++ step ∷ []) path.steps → IsPartOf (over ∷ row ∷ []) left
          go (inl p) = absurd (nothing_below (above ++ step ∷ []) path.steps row.path.steps p below lower)
          go (inr (inl h)) = outside h
          go (inr (inr at)) = inside at

      by : Contains others row ⊎ Contains block row → IsPartOf (over ∷ row ∷ []) left
      by (inl has) = of_others has
      by (inr has) = of_block has

  pub block_keeps_tree : IsDataTree tables (with_block tables rows path place block)
  block_keeps_tree = record {
    below = all_from (λ (row : Row). IsAtOrBelow [] row.path) left (λ row has. (row.path.steps, refl));
    paths = left_all (λ row. IsPathOf tables row.path) tree.paths sub.paths;
    distinct = left_distinct;
    ordered = left_pairs (λ row later. ¬ IsBefore tables later.path row.path) tree.ordered sub.ordered front_not_behind back_not_before;
    together = left_together;
    values = left_all (HasItsValue tables) tree.values sub.values;
    keys = left_keys;
    ancestors = left_ancestors;
    cases = left_cases;
  }
