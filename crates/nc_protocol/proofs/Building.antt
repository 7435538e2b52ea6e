-- Merges, parents first, build a data tree, and at and below a node a subtree.
use Rattle.std.proofs.Common.{◌≡◌, ◌&&◌, ◌||◌, ◌⊎◌, ℕ, zero, suc, Bool, true, false, cond, not, List, [], ◌∷◌, ◌++◌, Option, Some, None, inl, inr, refl, sym, ap, subst, ◌∙◌, arith, append_assoc}
use Rattle.std.proofs.lemmas.List.{append-nil}
use Rattle.std.proofs.lemmas.List.Elements.{Contains-append_left, Contains-append_right}
use Rattle.std.specs.List.{All, Contains, filter, fold, list_any}
use Rattle.std.specs.Option.{option_map_or}
use Rattle.std.specs.Prelude.{map, option_and_then, slice_get}
use Rattle.nc_names.specs.Same.{is_at_or_below, is_same_path}
use Rattle.nc_names.specs.declared.path.Row.{Row}
use Rattle.nc_names.specs.declared.path.Step.{Step}
use Rattle.nc_names.proofs.SameLemmas.{step_itself}
use Rattle.nc_schema.specs.Blocks.{at_node, other_rows, own_rows, rows_of_node, with_block}
use Rattle.nc_schema.specs.Configuration.{IsAtOrBelow, HasItsValue, StandsForItself, IsDataTree}
use Rattle.nc_schema.specs.Kinds.{has_value, stands_for_itself}
use Rattle.nc_schema.proofs.ProperLemmas.{HasProperNodes}
use Rattle.nc_schema.specs.Standing.{above_of, block_at, excludes, exists, has_row, lacks_above, node_of, steps_before}
use Rattle.nc_schema.specs.Tables.{Tables}
use Rattle.nc_schema.specs.declared.node.Kind.{Kind}
use Rattle.nc_schema.specs.declared.node.Kind.TheVariants.{Container, Leaf, LeafList, List as ListKind}
use Rattle.nc_schema.specs.declared.node.Node.{Node}
use Rattle.nc_protocol.specs.Edited.{cause_where, cause_at, left_by, new_block, place_by}
use Rattle.nc_protocol.specs.ProperEdit.{IsProperAction, IsProperEdit}
use Rattle.nc_protocol.specs.declared.edit.Action.{Action}
use Rattle.nc_protocol.specs.declared.edit.Action.TheVariants.{Merge}
use Rattle.nc_protocol.specs.declared.edit.Edit.{Edit}
use Rattle.nc_names.specs.declared.cause.CauseKind.TheVariants.{Absent}
use Rattle.nc_protocol.proofs.AboveLemmas.{row_below}
use Rattle.nc_protocol.proofs.EditedRows.{below_of, others_stay}
use Rattle.nc_protocol.proofs.EditLemmas.{action_keeps}
use Rattle.nc_protocol.proofs.ListLemmas.{contains_behind, fold_join, last_cut, same_before, too_long}
use Rattle.nc_protocol.proofs.OwnLemmas.{no_own_value}
use Rattle.nc_protocol.proofs.Parts.{all_at, all_from, contains_kept, part_first}
use Rattle.nc_protocol.proofs.PathViews.{IsLower, lower_excludes}
use Rattle.nc_protocol.proofs.PlaceLemmas.{below_is_below, last_of}
use Rattle.nc_protocol.proofs.SiblingLemmas.{ancestor}
use Rattle.nc_protocol.proofs.SubtreeLemmas.{own_rows_are}

-- ---- steps and lists
-- what is behind steps begins with a step
longer : (ys : List Step) (s : Step) (rest : List Step) → (y : Step) × (zs : List Step) × (ys ++ s ∷ rest ≡ y ∷ zs)
longer [] s rest = (s, rest, refl)
longer (y ∷ ys) s rest = (y, ys ++ s ∷ rest, refl)

any_map : {A B : Type 0} (p : B → Bool) (f : A → B) (xs : List A) → list_any p (map f xs) ≡ list_any (λ x. p (f x)) xs
any_map p f [] = refl
any_map p f (x ∷ xs) = ap (λ b. p (f x) || b) (any_map p f xs)

path_itself : (steps : List Step) → is_same_path steps steps ≡ true
path_itself [] = refl
path_itself (step ∷ steps) = ap (λ b. b && is_same_path steps steps) (step_itself step) ∙ path_itself steps

-- a list with a row has one at its path
pub row_is_there : (rows : List Row) (row : Row) → Contains rows row → has_row rows row.path.steps ≡ true
row_is_there [] row has = absurd (omega (arith, has.1))
row_is_there (r ∷ rows) row (zero, within, here) =
    ap (λ x. is_same_path x.path.steps row.path.steps || has_row rows row.path.steps) here ∙ ap (λ b. b || has_row rows row.path.steps) (path_itself row.path.steps)
row_is_there (r ∷ rows) row (suc k, within, here) = by (is_same_path r.path.steps row.path.steps) (row_is_there rows row (k, omega (arith, within), here))
  where
    by : (b : Bool) → has_row rows row.path.steps ≡ true → (b || has_row rows row.path.steps) ≡ true
    by true e = refl
    by false e = e

-- ---- the nodes above
abbrev itself_at : List Step → Row
itself_at steps = record { path = record { steps = steps }; value = None }

-- each node above that stands for itself has its row
abbrev pub Stands : Tables → List Step → List Row → Type 0
Stands tables above rows =
    (front : List Step) (step : Step) (rest : List Step) (node : Node) → above ≡ front ++ step ∷ rest →
    slice_get tables.nodes step.node ≡ Some node → StandsForItself node.kind → Contains rows (itself_at (front ++ step ∷ []))

pub stands_higher : (tables : Tables) (above : List Step) (step : Step) (rows : List Row) → Stands tables (above ++ step ∷ []) rows → Stands tables above rows
stands_higher tables above step rows stands front s rest node is = stands front s (rest ++ step ∷ []) node (ap (λ ss. ss ++ step ∷ []) is ∙ append_assoc front (s ∷ rest) (step ∷ []))

stands_kind : (kind : Kind) → stands_for_itself kind ≡ true → StandsForItself kind
stands_kind (Container presence) e = e
stands_kind Leaf e = let clash : false ≡ true = e in cc
stands_kind LeafList e = let clash : false ≡ true = e in cc
stands_kind ListKind e = tt

abbrev lacks : Tables → List Row → List Step → Bool
lacks tables rows over = option_map_or (λ node. stands_for_itself node.kind) (node_of tables over) false && not (has_row rows over)

module _ (tables : Tables) (rows : List Row) where
  -- the last of some steps that stand is not lacked
  last_stands : (pre : List Step) (step : Step) (rest : List Step) → Stands tables (pre ++ step ∷ rest) rows → lacks tables rows (pre ++ step ∷ []) ≡ false
  last_stands pre step rest stands =
      ap (λ o. option_map_or (λ node. stands_for_itself node.kind) o false && not (has_row rows (pre ++ step ∷ [])))
      (ap (option_and_then (λ s. slice_get tables.nodes s.node)) (last_of None pre step))
      ∙ by (slice_get tables.nodes step.node) refl
    where
      by : (o : Option Node) → slice_get tables.nodes step.node ≡ o → (option_map_or (λ node. stands_for_itself node.kind) o false && not (has_row rows (pre ++ step ∷ []))) ≡ false
      by None e = refl
      by (Some node) e = go (stands_for_itself node.kind) refl
        where
          go : (b : Bool) → stands_for_itself node.kind ≡ b → (b && not (has_row rows (pre ++ step ∷ []))) ≡ false
          go false is = refl
          go true is = ap not (row_is_there rows (itself_at (pre ++ step ∷ [])) (stands pre step rest node refl e (stands_kind node.kind is)))

  none_lacked : (pre above : List Step) (step : Step) → Stands tables (pre ++ above) rows → lacks tables rows pre ≡ false →
      list_any (λ over. lacks tables rows (pre ++ over)) (above_of (above ++ step ∷ [])) ≡ false
  none_lacked pre [] step stands none = ap (λ ss. lacks tables rows ss || false) (append-nil pre) ∙ ap (λ b. b || false) none
  none_lacked pre (x ∷ above) step stands none =
      ap (λ ss. lacks tables rows ss || list_any (λ over. lacks tables rows (pre ++ over)) (map (λ over. x ∷ over) (above_of (above ++ step ∷ [])))) (append-nil pre)
      ∙ ap (λ b. b || list_any (λ over. lacks tables rows (pre ++ over)) (map (λ over. x ∷ over) (above_of (above ++ step ∷ [])))) none
      ∙ any_map (λ over. lacks tables rows (pre ++ over)) (λ over. x ∷ over) (above_of (above ++ step ∷ []))
      ∙ (λ i. list_any (λ over. lacks tables rows (sym (append_assoc pre (x ∷ []) over) i)) (above_of (above ++ step ∷ [])))
      ∙ none_lacked (pre ++ x ∷ []) above step (subst (λ ss. Stands tables ss rows) (sym (append_assoc pre (x ∷ []) above)) stands) (last_stands pre x above stands)

  pub none_above : (above : List Step) (step : Step) → Stands tables above rows → lacks_above tables rows (above ++ step ∷ []) ≡ false
  none_above above step stands = none_lacked [] above step stands refl

-- ---- one edit
module _ (tables : Tables) (rows : List Row) (edit : Edit) (fits : IsProperEdit tables edit) where
  abbrev block : List Row
  block = new_block tables rows edit.path edit.action

  below : All (λ row. IsAtOrBelow edit.path.steps row.path) block
  below = below_of tables rows edit.path edit.action fits.action

  -- a row above its node stays
  pub stays_above : (row : Row) (step : Step) (rest : List Step) → Contains rows row → edit.path.steps ≡ row.path.steps ++ step ∷ rest → Contains (left_by tables rows edit) row
  stays_above row step rest has is =
      (others_stay tables rows edit.path (place_by edit.action edit.place) block below row
      (λ at. too_long row.path.steps step rest at.0 (at.1 ∙ ap (λ ss. ss ++ at.0) is))).1 (
        has,
        all_from _ block (λ added there.
            (let under = all_at (λ (r : Row). IsAtOrBelow edit.path.steps r.path) block added below there in
            ap (λ ss. excludes tables ss row.path.steps) (under.1 ∙ ap (λ ss. ss ++ under.0) is ∙ append_assoc row.path.steps (step ∷ rest) under.0)
            ∙ lower_excludes tables row.path.steps ((step ∷ rest) ++ under.0))),
      )

  -- what stands above its node goes on standing
  pub stands_on : (above : List Step) (step : Step) (rest : List Step) → edit.path.steps ≡ above ++ step ∷ rest → Stands tables above rows → Stands tables above (left_by tables rows edit)
  stands_on above step rest is stands front s more node cut node_is itself =
      let behind = longer more step rest in
      stays_above (itself_at (front ++ s ∷ [])) behind.0 behind.1 (stands front s more node cut node_is itself)
      (is ∙ ap (λ ss. ss ++ step ∷ rest) cut ∙ append_assoc front (s ∷ more) (step ∷ rest) ∙ ap (λ ss. front ++ s ∷ ss) behind.2 ∙ sym (append_assoc front (s ∷ []) (behind.0 ∷ behind.1)))

  pub in_left : (row : Row) → Contains block row → Contains (left_by tables rows edit) row
  in_left row has = Contains-append_left (filter before others ++ block) (filter (λ r. not (before r)) others) row (Contains-append_right (filter before others) block row has)
    where
      before : Row → Bool
      before r = steps_before tables rows (place_by edit.action edit.place) [] r.path.steps edit.path.steps

      others : List Row
      others = other_rows tables rows edit.path.steps block

-- ---- one merge
module _ (tables : Tables) (rows : List Row) (above : List Step) (step : Step) (edit : Edit) (value : Option (List ℕ)) (proper : HasProperNodes tables) (tree : IsDataTree tables rows)
    (fits : IsProperEdit tables edit) (merges : edit.action ≡ Merge value) (path_is : edit.path.steps ≡ above ++ step ∷ []) (stands : Stands tables above rows) where
  pub merge_keeps : IsDataTree tables (left_by tables rows edit)
  merge_keeps =
      subst (λ (action : Action). IsDataTree tables (with_block tables rows edit.path (place_by action edit.place) (new_block tables rows edit.path action))) (sym merges)
      (action_keeps tables rows edit.path proper tree fits.path (Merge value) edit.place (subst (IsProperAction tables edit.path) merges fits.action)
      (ap (λ b. cause_where b (cause_at Absent edit.path [])) (ap (lacks_above tables rows) path_is ∙ none_above tables rows above step stands)))

  -- a node that stands for itself has its row then
  own_stands : (node : Node) → slice_get tables.nodes step.node ≡ Some node → StandsForItself node.kind → Contains (left_by tables rows edit) (itself_at (above ++ step ∷ []))
  own_stands node node_is itself =
      in_left tables rows edit fits own
      (subst (λ (action : Action). Contains (new_block tables rows edit.path action) own) (sym merges) (by (exists rows edit.path.steps) refl))
    where
      own : Row
      own = itself_at (above ++ step ∷ [])

      same : edit.path ≡ own.path
      same i = record { steps = path_is i }

      has_no_value : (kind : Kind) → StandsForItself kind → has_value kind ≡ false
      has_no_value (Container presence) itself = refl
      has_no_value Leaf itself = absurd itself
      has_no_value LeafList itself = absurd itself
      has_no_value ListKind itself = refl

      node_found : node_of tables edit.path.steps ≡ Some node
      node_found = ap (node_of tables) path_is ∙ ap (option_and_then (λ s. slice_get tables.nodes s.node)) (last_of None above step) ∙ node_is

      no_value : at_node tables edit.path has_value ≡ false
      no_value = ap (λ o. option_map_or (λ n. has_value n.kind) o false) node_found ∙ has_no_value node.kind itself

      fresh : (kind : Kind) → StandsForItself kind → Contains (own_rows kind node.keys own.path step.keys value) own
      fresh (Container true) itself = (0, omega arith, refl)
      fresh (Container false) itself = let clash : false ≡ true = itself in cc
      fresh Leaf itself = absurd itself
      fresh LeafList itself = absurd itself
      fresh ListKind itself = (0, omega arith, refl)

      there : (row : Row) × Contains rows row × IsLower row.path.steps edit.path.steps → Contains rows own
      there (row, has, ([], is)) =
          let steps : row.path.steps ≡ above ++ step ∷ [] = is ∙ append-nil edit.path.steps ∙ path_is in
          let none : row.value ≡ None = no_own_value node.kind step row.value itself (all_at (HasItsValue tables) rows row tree.values has above step node (record { path = steps; node_is = node_is })) in
          subst (Contains rows) (λ i. record { path = record { steps = steps i }; value = none i }) has
      there (row, has, (next ∷ rest, is)) =
          part_first own row rows
          (ancestor tables rows row above step next rest node tree has (is ∙ ap (λ ss. ss ++ next ∷ rest) path_is ∙ append_assoc above (step ∷ []) (next ∷ rest)) node_is itself)

      by : (b : Bool) → exists rows edit.path.steps ≡ b →
          Contains (cond (b && not (at_node tables edit.path has_value)) (block_at rows edit.path.steps) (rows_of_node tables edit.path value)) own
      by false e = subst (λ (rs : List Row). Contains rs own) (sym (ap (λ p. rows_of_node tables p value) same ∙ own_rows_are tables own.path value above step node refl node_is)) (fresh node.kind itself)
      by true e =
          subst (λ (b : Bool). Contains (cond (not b) (block_at rows edit.path.steps) (rows_of_node tables edit.path value)) own) (sym no_value)
          (contains_kept (λ row. is_at_or_below edit.path.steps row.path) own rows (there (row_below rows edit.path.steps e))
          ((below_is_below edit.path.steps own.path).1 ([], sym path_is ∙ sym (append-nil edit.path.steps))))

  pub stands_then : Stands tables (above ++ step ∷ []) (left_by tables rows edit)
  stands_then front s rest node cut node_is itself = by (last_cut above (front ++ s ∷ []) rest step (cut ∙ sym (append_assoc front (s ∷ []) rest)))
    where
      by : (rest ≡ []) ⊎ ((more : List Step) × (above ≡ (front ++ s ∷ []) ++ more)) → Contains (left_by tables rows edit) (itself_at (front ++ s ∷ []))
      by (inr (more, is)) = stands_on tables rows edit fits above step [] path_is stands front s more node (is ∙ append_assoc front (s ∷ []) more) node_is itself
      by (inl none) =
          let ends = same_before above front step s (cut ∙ ap (λ ss. front ++ s ∷ ss) none) in
          subst (Contains (left_by tables rows edit)) (λ i. itself_at (ends.0 i ++ ends.1 i ∷ []))
          (own_stands node (ap (λ (x : Step). slice_get tables.nodes x.node) ends.1 ∙ node_is) itself)

-- ---- several merges below a node, parents first
pub record IsMergeBelow (tables : Tables) (above : List Step) (edit : Edit) : Type 0 where
  pub value : Option (List ℕ)
  pub step : Step
  pub rest : List Step
  pub merges : edit.action ≡ Merge value
  pub steps : edit.path.steps ≡ above ++ step ∷ rest
  pub fits : IsProperEdit tables edit

pub record IsBuilt (tables : Tables) (above : List Step) (edits : List Edit) : Type 0 where
  pub each : (edit : Edit) → Contains edits edit → IsMergeBelow tables above edit
  pub keeps : (rows : List Row) → IsDataTree tables rows → Stands tables above rows → IsDataTree tables (fold (left_by tables) rows edits) × Stands tables above (fold (left_by tables) rows edits)

pub nothing_built : (tables : Tables) (above : List Step) → IsBuilt tables above []
nothing_built tables above = record {
  each = λ edit has. absurd (omega (arith, has.1));
  keeps = λ rows tree stands. (tree, stands);
}

either_has : (xs ys : List Edit) (P : Edit → Type 0) → ((e : Edit) → Contains xs e → P e) → ((e : Edit) → Contains ys e → P e) → (e : Edit) → Contains (xs ++ ys) e → P e
either_has [] ys P first second e has = second e has
either_has (x ∷ xs) ys P first second e (zero, within, here) = subst P here (first x (0, omega arith, refl))
either_has (x ∷ xs) ys P first second e (suc k, within, here) =
    either_has xs ys P (λ d has. first d (contains_behind x xs d has)) second e (k, omega (arith, within), here)

pub joined_built : (tables : Tables) (above : List Step) (edits more : List Edit) → IsBuilt tables above edits → IsBuilt tables above more → IsBuilt tables above (edits ++ more)
joined_built tables above edits more one other = record {
  each = either_has edits more (IsMergeBelow tables above) one.each other.each;
  keeps = λ rows tree stands.
      (let first = one.keeps rows tree stands in
      subst (λ (rs : List Row). IsDataTree tables rs × Stands tables above rs) (sym (fold_join (left_by tables) rows edits more))
      (other.keeps (fold (left_by tables) rows edits) first.0 first.1));
}

-- a merge, and then merges below it
pub below_built : (tables : Tables) (above : List Step) (step : Step) (edit : Edit) (value : Option (List ℕ)) (edits : List Edit) → HasProperNodes tables → IsProperEdit tables edit →
    edit.action ≡ Merge value → edit.path.steps ≡ above ++ step ∷ [] → IsBuilt tables (above ++ step ∷ []) edits → IsBuilt tables above (edit ∷ edits)
below_built tables above step edit value edits proper fits merges path_is built = record {
  each = either_has (edit ∷ []) edits (IsMergeBelow tables above) first behind;
  keeps = λ rows tree stands.
      (let made = built.keeps (left_by tables rows edit)
      (merge_keeps tables rows above step edit value proper tree fits merges path_is stands)
      (stands_then tables rows above step edit value proper tree fits merges path_is stands) in
      (made.0, stands_higher tables above step _ made.1));
}
  where
    own : IsMergeBelow tables above edit
    own = record { value = value; step = step; rest = []; merges = merges; steps = path_is; fits = fits }

    first : (e : Edit) → Contains (edit ∷ []) e → IsMergeBelow tables above e
    first e (zero, within, here) = subst (IsMergeBelow tables above) here own
    first e (suc k, within, here) = absurd (omega (arith, within))

    behind : (e : Edit) → Contains edits e → IsMergeBelow tables above e
    behind e has =
        let under = built.each e has in
        record {
          value = under.value;
          step = step;
          rest = under.step ∷ under.rest;
          merges = under.merges;
          steps = under.steps ∙ append_assoc above (step ∷ []) (under.step ∷ under.rest);
          fits = under.fits;
        }
