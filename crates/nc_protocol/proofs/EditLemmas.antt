-- Edits that fit the schema leave a data tree.
use Rattle.std.proofs.Common.{◌≡◌, ◌⊎◌, ◌&&◌, ℕ, zero, suc, Bool, true, false, cond, not, List, [], ◌∷◌, ◌++◌, length, Option, Some, None, refl, sym, ap, subst, ◌∙◌, inl, inr, arith}
use Rattle.std.proofs.lemmas.Bool.{not-false}
use Rattle.std.proofs.lemmas.List.{append_assoc, append-nil, nil_from_length}
use Rattle.std.proofs.lemmas.List.Elements.{Contains-append_left, Contains-append_right}
use Rattle.std.specs.List.{All, Contains, fold}
use Rattle.std.specs.Option.{option_map_or}
use Rattle.std.specs.Prelude.{Result, Ok, Err, IsSome, slice_get, option_and_then}
use Rattle.nc_names.specs.declared.path.Path.{Path}
use Rattle.nc_names.specs.declared.path.Place.{Place}
use Rattle.nc_names.specs.declared.path.Place.TheVariants.{Kept}
use Rattle.nc_names.specs.declared.path.Right.{Right}
use Rattle.nc_names.specs.declared.path.Row.{Row}
use Rattle.nc_names.specs.declared.path.Step.{Step}
use Rattle.nc_schema.specs.declared.node.Kind.{Kind}
use Rattle.nc_schema.specs.declared.node.Kind.TheVariants.{Leaf}
use Rattle.nc_schema.specs.declared.node.Node.{Node}
use Rattle.nc_schema.specs.Configuration.{IsRowValue, StandsForItself, key_rows, IsDataTree, IsSubtree}
use Rattle.nc_schema.specs.Paths.{key_count, IsPathOf}
use Rattle.nc_schema.specs.Proper.{IsKeyIn}
use Rattle.nc_schema.proofs.ProperLemmas.{HoldsNodes, HasProperNodes}
use Rattle.nc_schema.specs.Tables.{Tables}
use Rattle.nc_protocol.specs.declared.access.Decision.{Decision}
use Rattle.nc_protocol.specs.declared.asked.ErrorOption.{ErrorOption}
use Rattle.nc_protocol.specs.declared.asked.ErrorOption.TheVariants.{Stop, Continue, Rollback}
use Rattle.nc_protocol.specs.declared.edit.Action.{Action}
use Rattle.nc_protocol.specs.declared.edit.Action.TheVariants.{Nothing, Merge, Create, Replace, Delete, Remove}
use Rattle.nc_protocol.specs.declared.edit.Edit.{Edit}
use Rattle.nc_protocol.specs.declared.request.Cause.{Cause}
use Rattle.nc_protocol.specs.Applied.{Applied, is_empty, with_result, continued, stopped, applied}
use Rattle.nc_protocol.specs.Edited.{new_block, place_by, left_by, cause_where, first_cause, is_there, missed, refusal, unless_refused, edited}
use Rattle.nc_schema.specs.Blocks.{at_node, rows_of_node, own_rows, with_block}
use Rattle.nc_schema.specs.Kinds.{has_value, is_plain_container}
use Rattle.nc_protocol.specs.Laws.{EditKeepsTree, EditsKeepTree}
use Rattle.nc_protocol.specs.ProperEdit.{IsKeyAt, IsNoKey, IsMergeValue, IsProperAction, IsProperEdit}
use Rattle.nc_schema.specs.Standing.{node_of, block_at, exists, lacks_above}
use Rattle.nc_protocol.proofs.AboveLemmas.{row_below, above_stands, above_block, key_or_not}
use Rattle.nc_protocol.proofs.KeyPlace.{leaf_is_put, block_is_row}
use Rattle.nc_protocol.proofs.ListLemmas.{contains_behind, contains_split, some_same, contains_at, last_same}
use Rattle.nc_protocol.proofs.Parts.{all_at}
use Rattle.nc_protocol.proofs.PathViews.{IsLower, node_after, after_last}
use Rattle.nc_protocol.proofs.PlaceLemmas.{last_of}
use Rattle.nc_protocol.proofs.SiblingLemmas.{path_step, some_and}
use Rattle.nc_protocol.proofs.SubtreeLemmas.{block_is_subtree, fresh_is_subtree, nothing_is_subtree, own_rows_are}
use Rattle.nc_protocol.proofs.WithBlock.{block_keeps_tree}
use Rattle.nc_schema.proofs.ProperLemmas.{proper_nodes}

-- no cause is the first: the first is none
pub no_first : (one : Option Cause) (more : List (Option Cause)) → first_cause (one ∷ more) ≡ None → (one ≡ None) × (first_cause more ≡ None)
no_first None more e = (refl, e)
no_first (Some cause) more e = cc

pub ok_same : (rows others : List Row) → unless_refused None rows ≡ Ok others → rows ≡ others
ok_same rows others e = cc

pub no_cause : (b : Bool) (cause : Cause) → cause_where b cause ≡ None → b ≡ false
no_cause true cause e = cc
no_cause false cause e = refl

-- the rows of the keys of an entry hold that of each
key_row_there : (entry : List Step) (keys : List ℕ) (values : List (List ℕ)) (place number : ℕ) (value : List ℕ) → slice_get keys place ≡ Some number → slice_get values place ≡ Some value →
    Contains (key_rows entry keys values) (record { path = record { steps = entry ++ record { node = number; keys = [] } ∷ [] }; value = Some value })
key_row_there entry [] values place number value key_is value_is = cc
key_row_there entry (k ∷ keys) [] place number value key_is value_is = cc
key_row_there entry (k ∷ keys) (v ∷ values) zero number value key_is value_is =
    let number_is : k ≡ number = cc in
    let is : v ≡ value = cc in
    (0, omega arith, (λ i. record { path = record { steps = entry ++ record { node = number_is i; keys = [] } ∷ [] }; value = Some (is i) }))
key_row_there entry (k ∷ keys) (v ∷ values) (suc place) number value key_is value_is =
    contains_behind _ (key_rows entry keys values) _ (key_row_there entry keys values place number value key_is value_is)

module _ (tables : Tables) (rows : List Row) (path : Path) (proper : HasProperNodes tables) (tree : IsDataTree tables rows) (is_path : IsPathOf tables path) where
  -- the place is no key: its rows give way to a subtree
  by_subtree : (place : Place) (block : List Row) → IsNoKey tables path → IsSubtree tables path.steps block →
      ((b : Row) (above : List Step) (step next : Step) (rest : List Step) (node : Node) → Contains block b → path.steps ≡ above ++ step ∷ next ∷ rest →
      slice_get tables.nodes step.node ≡ Some node → StandsForItself node.kind → Contains rows (record { path = record { steps = above ++ step ∷ [] }; value = None })) →
      IsDataTree tables (with_block tables rows path place block)
  by_subtree place block no_key sub stand = block_keeps_tree tables rows place path block proper tree is_path no_key sub stand

  -- the leaf that is a key
  pub record IsLeafAt : Type 0 where
    pub above : List Step
    pub step : Step
    pub node : Node
    pub steps : path.steps ≡ above ++ step ∷ []
    pub node_is : slice_get tables.nodes step.node ≡ Some node
    pub leaf : node.kind ≡ Leaf

  key_leaf : (entry : Step) (place : ℕ) → IsKeyAt tables path entry place → IsLeafAt
  key_leaf entry place key = by (some_and _ _ (proper.keys entry.node key.key.node key.node key.node_is (contains_at key.node.keys place key.key.node key.key_is)))
    where
      by : (leaf : Node) × (slice_get tables.nodes key.key.node ≡ Some leaf) × IsKeyIn entry.node leaf → IsLeafAt
      by (leaf, leaf_is, is_key) = record {
        above = key.above ++ entry ∷ [];
        step = key.key;
        node = leaf;
        steps = key.steps ∙ sym (append_assoc key.above (entry ∷ []) (key.key ∷ []));
        node_is = leaf_is;
        leaf = is_key.kind;
      }

  -- the row of a leaf is put where it is
  leaf_put : IsLeafAt → (place : Place) (row : Row) → Contains rows row → row.path ≡ path → with_block tables rows path place (row ∷ []) ≡ rows
  leaf_put at place row has same = by (contains_split rows row has)
    where
      by : (first : List Row) × (last : List Row) × (rows ≡ first ++ row ∷ last) → with_block tables rows path place (row ∷ []) ≡ rows
      by (first, last, is) =
          ap (λ p. with_block tables rows p place (row ∷ [])) (sym same)
          ∙ leaf_is_put tables rows place proper tree row first last is at.above at.step at.node (ap (λ p. p.steps) same ∙ at.steps) at.node_is at.leaf

  leaf_kind : (at : IsLeafAt) (test : Kind → Bool) → at_node tables path test ≡ test Leaf
  leaf_kind at test =
      ap (λ ss. option_map_or (λ n. test n.kind) (node_of tables ss) false) at.steps
      ∙ ap (λ o. option_map_or (λ n. test n.kind) (option_and_then (λ s. slice_get tables.nodes s.node) o) false) (last_of None at.above at.step)
      ∙ ap (λ o. option_map_or (λ n. test n.kind) o false) at.node_is ∙ ap test at.leaf

  -- an edit that does nothing
  nothing_keeps : exists rows path.steps ≡ true ⊎ IsNoKey tables path → IsDataTree tables (with_block tables rows path Kept (block_at rows path.steps))
  nothing_keeps either = by (key_or_not tables path is_path) either
    where
      at_leaf : IsLeafAt → (row : Row) × Contains rows row × IsLower row.path.steps path.steps → IsDataTree tables (with_block tables rows path Kept (block_at rows path.steps))
      at_leaf at (row, has, (next ∷ rest, is)) =
          let below = path_step tables row.path path.steps next rest (all_at (λ (r : Row). IsPathOf tables r.path) rows row tree.paths has) is in
          let holds = proper.parents next.node at.step.node below.node at.node below.node_is (below.parent ∙ ap (node_after None) at.steps ∙ after_last None at.above at.step) at.node_is in
          absurd (subst HoldsNodes at.leaf holds)
      at_leaf at (row, has, ([], is)) =
          subst (IsDataTree tables) (sym (ap (λ block. with_block tables rows path Kept block) block_is ∙ leaf_put at Kept row has same)) tree
        where
          same : row.path ≡ path
          same i = record { steps = (is ∙ append-nil path.steps) i }

          block_is : block_at rows path.steps ≡ row ∷ []
          block_is = go (contains_split rows row has)
            where
              go : (first : List Row) × (last : List Row) × (rows ≡ first ++ row ∷ last) → block_at rows path.steps ≡ row ∷ []
              go (first, last, rows_are) =
                  ap (λ p. block_at rows p.steps) (sym same)
                  ∙ block_is_row tables rows Kept proper tree row first last rows_are at.above at.step at.node (ap (λ p. p.steps) same ∙ at.steps) at.node_is at.leaf

      by : IsNoKey tables path ⊎ ((entry : Step) × (place : ℕ) × IsKeyAt tables path entry place) → exists rows path.steps ≡ true ⊎ IsNoKey tables path → IsDataTree tables (with_block tables rows path Kept (block_at rows path.steps))
      by (inl no_key) either = by_subtree Kept (block_at rows path.steps) no_key (block_is_subtree tables rows path.steps tree) (above_block tables rows path tree)
      by (inr (entry, place, key)) (inl there) = at_leaf (key_leaf entry place key) (row_below rows path.steps there)
      by (inr (entry, place, key)) (inr no_key) = absurd (no_key entry place key)

  -- an edit that merges
  module _ (place : Place) (value : Option (List ℕ)) (fits : IsMergeValue tables path value) (none : lacks_above tables rows path.steps ≡ false) where
    merge_other : IsNoKey tables path → IsDataTree tables (with_block tables rows path place (new_block tables rows path (Merge value)))
    merge_other no_key = by (exists rows path.steps && not (at_node tables path has_value))
      where
        by : (there : Bool) → IsDataTree tables (with_block tables rows path place (cond there (block_at rows path.steps) (rows_of_node tables path value)))
        by true = by_subtree place (block_at rows path.steps) no_key (block_is_subtree tables rows path.steps tree) (above_block tables rows path tree)
        by false =
            by_subtree place (rows_of_node tables path value) no_key (fresh_is_subtree tables path value proper is_path fits)
            (λ b above step next rest node has. above_stands tables rows path tree none above step next rest node)

    merge_key : (entry : Step) (number : ℕ) → IsKeyAt tables path entry number → IsDataTree tables (with_block tables rows path place (new_block tables rows path (Merge value)))
    merge_key entry number key = subst (λ (block : List Row). IsDataTree tables (with_block tables rows path place block)) (sym (block_is (exists rows path.steps))) (subst (IsDataTree tables) (sym (leaf_put at place (record { path = path; value = value }) row_there refl)) tree)
      where
        at : IsLeafAt
        at = key_leaf entry number key

        own : rows_of_node tables path value ≡ record { path = path; value = value } ∷ []
        own = own_rows_are tables path value at.above at.step at.node at.steps at.node_is ∙ ap (λ kind. own_rows kind at.node.keys path at.step.keys value) at.leaf

        block_is : (there : Bool) → cond (there && not (at_node tables path has_value)) (block_at rows path.steps) (rows_of_node tables path value) ≡ record { path = path; value = value } ∷ []
        block_is true = ap (λ b. cond (not b) (block_at rows path.steps) (rows_of_node tables path value)) (leaf_kind at has_value) ∙ own
        block_is false = own

        text : (o : Option (List ℕ)) → IsSome o → (v : List ℕ) × (o ≡ Some v)
        text None none_is = cc
        text (Some v) some = (v, refl)

        value_some : (v : List ℕ) × (value ≡ Some v)
        value_some = text value (subst (λ (kind : Kind). IsRowValue kind at.step value) at.leaf (fits.own at.above at.step at.node at.steps at.node_is (ap has_value at.leaf)))

        -- the step to a leaf has no keys
        no_keys : key.key.keys ≡ []
        no_keys =
            let found = path_step tables path at.above at.step [] is_path at.steps in
            let same : found.node ≡ at.node = some_same found.node at.node (sym found.node_is ∙ at.node_is) in
            ap (λ s. s.keys) (last_same (key.above ++ entry ∷ []) at.above key.key at.step (append_assoc key.above (entry ∷ []) (key.key ∷ []) ∙ sym key.steps ∙ at.steps))
            ∙ nil_from_length at.step.keys (found.keys ∙ ap (λ n. key_count n.kind (length n.keys)) same ∙ ap (λ kind. key_count kind (length at.node.keys)) at.leaf)

        entry_there : Contains rows (record { path = record { steps = key.above ++ entry ∷ [] }; value = None })
        entry_there = above_stands tables rows path tree none key.above entry key.key [] key.node key.steps key.node_is (subst StandsForItself (sym key.list) tt)

        row_there : Contains rows (record { path = path; value = value })
        row_there = by (contains_split rows (record { path = record { steps = key.above ++ entry ∷ [] }; value = None }) entry_there)
          where
            in_keys : Contains (key_rows (key.above ++ entry ∷ []) key.node.keys entry.keys) (record { path = path; value = value })
            in_keys =
                subst (Contains (key_rows (key.above ++ entry ∷ []) key.node.keys entry.keys))
                (λ i. record { path = record { steps = (ap (λ ks. (key.above ++ entry ∷ []) ++ record { node = key.key.node; keys = ks } ∷ []) (sym no_keys) ∙ append_assoc key.above (entry ∷ []) (key.key ∷ []) ∙ sym key.steps) i }; value = sym value_some.1 i })
                (key_row_there (key.above ++ entry ∷ []) key.node.keys entry.keys number key.key.node value_some.0 key.key_is (sym (fits.of_key entry number key) ∙ value_some.1))

            by : (first : List Row) × (last : List Row) × (rows ≡ first ++ record { path = record { steps = key.above ++ entry ∷ [] }; value = None } ∷ last) → Contains rows (record { path = path; value = value })
            by (first, last, is) =
                go (tree.keys first last (record { path = record { steps = key.above ++ entry ∷ [] }; value = None }) key.above entry key.node is (record { path = refl; node_is = key.node_is }) key.list)
              where
                go : (rest : List Row) × (last ≡ key_rows (key.above ++ entry ∷ []) key.node.keys entry.keys ++ rest) → Contains rows (record { path = path; value = value })
                go (rest, last_is) =
                    subst (λ (rs : List Row). Contains rs (record { path = path; value = value })) (sym is)
                    (Contains-append_right first (record { path = record { steps = key.above ++ entry ∷ [] }; value = None } ∷ last) (record { path = path; value = value })
                    (contains_behind _ last _ (subst (λ (rs : List Row). Contains rs (record { path = path; value = value })) (sym last_is)
                    (Contains-append_left (key_rows (key.above ++ entry ∷ []) key.node.keys entry.keys) rest (record { path = path; value = value }) in_keys))))

    merge_keeps : IsDataTree tables (with_block tables rows path place (new_block tables rows path (Merge value)))
    merge_keeps = by (key_or_not tables path is_path)
      where
        by : IsNoKey tables path ⊎ ((entry : Step) × (number : ℕ) × IsKeyAt tables path entry number) → IsDataTree tables (with_block tables rows path place (new_block tables rows path (Merge value)))
        by (inl no_key) = merge_other no_key
        by (inr (entry, number, key)) = merge_key entry number key

  -- each action
  pub action_keeps : (action : Action) (place : Place) → IsProperAction tables path action → missed tables rows path action ≡ None →
      IsDataTree tables (with_block tables rows path (place_by action place) (new_block tables rows path action))
  action_keeps Nothing place fits met = nothing_keeps (by (key_or_not tables path is_path) (at_node tables path is_plain_container) refl (not-false _ (no_cause (not (is_there tables rows path)) _ met)))
    where
      by : IsNoKey tables path ⊎ ((entry : Step) × (number : ℕ) × IsKeyAt tables path entry number) → (plain : Bool) → at_node tables path is_plain_container ≡ plain →
          cond plain (not (lacks_above tables rows path.steps)) (exists rows path.steps) ≡ true → exists rows path.steps ≡ true ⊎ IsNoKey tables path
      by (inl no_key) plain is there = inr no_key
      by (inr (entry, number, key)) false is there = inl there
      by (inr (entry, number, key)) true is there = let clash : true ≡ false = sym is ∙ leaf_kind (key_leaf entry number key) is_plain_container in cc
  action_keeps (Merge value) place fits met = merge_keeps place value fits (no_cause (lacks_above tables rows path.steps) _ met)
  action_keeps (Create new) place fits met =
      by_subtree place new fits.no_key fits.rows
      (λ b above step next rest node has. above_stands tables rows path tree
      (no_cause (lacks_above tables rows path.steps) _ (no_first (cause_where (lacks_above tables rows path.steps) _) [] (no_first (cause_where (exists rows path.steps) _) _ met).1).0) above step next rest node)
  action_keeps (Replace new) place fits met =
      by_subtree place new fits.no_key fits.rows (λ b above step next rest node has. above_stands tables rows path tree (no_cause (lacks_above tables rows path.steps) _ met) above step next rest node)
  action_keeps Delete place fits met = by_subtree Kept [] fits (nothing_is_subtree tables path.steps) (λ b above step next rest node has. absurd (omega (arith, has.1)))
  action_keeps Remove place fits met = by_subtree Kept [] fits (nothing_is_subtree tables path.steps) (λ b above step next rest node has. absurd (omega (arith, has.1)))

pub edit_keeps_tree : EditKeepsTree
edit_keeps_tree tables rights rows left edit proper tree fits is = by (refusal tables rights rows edit) refl is
  where
    by : (refused : Option Cause) → refusal tables rights rows edit ≡ refused → unless_refused refused (left_by tables rows edit) ≡ Ok left → IsDataTree tables left
    by (Some cause) refused is = cc
    by None refused is =
        subst (IsDataTree tables) (ok_same _ _ is) (action_keeps tables rows edit.path (proper_nodes tables proper) tree fits.path edit.action edit.place fits.action (no_first (missed tables rows edit.path edit.action) _ refused).0)

-- ---- several edits: what each edit of a kind keeps, they keep together
module _ (tables : Tables) (rights : Path → Right → Decision) (Q : List Row → Type 0) (F : Edit → Type 0)
    (each : (rows left : List Row) (edit : Edit) → Q rows → F edit → edited tables rights rows edit ≡ Ok left → Q left) where
  continued_keeps : (so_far : Applied) (edit : Edit) → Q so_far.rows → F edit → Q (continued tables rights so_far edit).rows
  continued_keeps so_far edit holds fits = by (edited tables rights so_far.rows edit) refl
    where
      by : (result : Result (List Row) Cause) → edited tables rights so_far.rows edit ≡ result → Q (with_result so_far result).rows
      by (Ok rows) is = each so_far.rows rows edit holds fits is
      by (Err cause) is = holds

  stopped_keeps : (so_far : Applied) (edit : Edit) → Q so_far.rows → F edit → Q (stopped tables rights so_far edit).rows
  stopped_keeps so_far edit holds fits = by (is_empty so_far.causes)
    where
      by : (b : Bool) → Q (cond b (continued tables rights so_far edit) so_far).rows
      by true = continued_keeps so_far edit holds fits
      by false = holds

  fold_keeps : (f : Applied → Edit → Applied) → ((so_far : Applied) (edit : Edit) → Q so_far.rows → F edit → Q (f so_far edit).rows) →
      (so_far : Applied) (edits : List Edit) → Q so_far.rows → All F edits → Q (fold f so_far edits).rows
  fold_keeps f step so_far [] holds fit = holds
  fold_keeps f step so_far (edit ∷ edits) holds fit =
      fold_keeps f step (f so_far edit) edits (step so_far edit holds (fit 0 edit (omega arith))) (λ k d within. fit (suc k) d (omega (arith, within)))

  pub applied_keeps : (on_error : ErrorOption) (rows : List Row) (edits : List Edit) → Q rows → All F edits → Q (applied tables rights on_error rows edits).rows
  applied_keeps Stop rows edits holds fit = fold_keeps (stopped tables rights) stopped_keeps (record { rows = rows; causes = [] }) edits holds fit
  applied_keeps Continue rows edits holds fit = fold_keeps (continued tables rights) continued_keeps (record { rows = rows; causes = [] }) edits holds fit
  applied_keeps Rollback rows edits holds fit = by (is_empty so_far.causes)
    where
      so_far : Applied
      so_far = fold (stopped tables rights) (record { rows = rows; causes = [] }) edits

      by : (b : Bool) → Q (cond b so_far (record so_far { rows = rows })).rows
      by true = fold_keeps (stopped tables rights) stopped_keeps (record { rows = rows; causes = [] }) edits holds fit
      by false = holds

pub edits_keep_tree : EditsKeepTree
edits_keep_tree tables rights on_error rows edits proper tree fit =
    applied_keeps tables rights (IsDataTree tables) (IsProperEdit tables)
    (λ before left edit holds fits is. edit_keeps_tree tables rights before left edit proper holds fits is) on_error rows edits tree fit
