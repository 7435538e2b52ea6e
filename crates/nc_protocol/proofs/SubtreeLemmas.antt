-- The rows at and below a node of a data tree are a subtree, and so are those that a merged node has by itself.
use Rattle.std.proofs.Common.{◌≡◌, ◌≢◌, ℕ, Bool, true, false, List, [], ◌∷◌, ◌++◌, refl, sym, ap, subst, ◌∙◌, arith}
use Rattle.std.proofs.lemmas.List.Elements.{filter_passes, All-filter}
use Rattle.std.specs.List.{Contains, last_or}
use Rattle.std.specs.Prelude.{Some, Option, None, IsTrue, IsSomeAnd, slice_get, option_and_then}
use Rattle.std.specs.Option.{option_map_or}
use Rattle.nc_names.specs.declared.path.Path.{Path}
use Rattle.nc_names.specs.declared.path.Row.{Row}
use Rattle.nc_names.specs.declared.path.Step.{Step}
use Rattle.nc_schema.specs.declared.node.Kind.{Kind}
use Rattle.nc_schema.specs.declared.node.Kind.TheVariants.{List as ListKind, Container, Leaf, LeafList}
use Rattle.nc_schema.specs.declared.node.Node.{Node}
use Rattle.nc_schema.specs.Configuration.{LeadsTo, key_rows, IsRowValue, HasItsValue, IsDataTree, AncestorsStand, IsSubtree}
use Rattle.nc_schema.specs.Order.{IsBefore}
use Rattle.nc_schema.specs.Paths.{HasAllKeys, IsPathOf}
use Rattle.nc_schema.proofs.ProperLemmas.{HasProperNodes}
use Rattle.nc_schema.specs.Tables.{Tables}
use Rattle.nc_schema.specs.Blocks.{own_rows, rows_of_node}
use Rattle.nc_schema.specs.Kinds.{has_value}
use Rattle.nc_protocol.specs.ProperEdit.{IsMergeValue}
use Rattle.nc_names.specs.Same.{is_at_or_below}
use Rattle.nc_schema.specs.Standing.{node_of, block_at}
use Rattle.nc_protocol.proofs.ListLemmas.{no_element, contains_last, pairs_filter}
use Rattle.nc_protocol.proofs.KeyLemmas.{filter_cut, keys_follow_filter, together_filter, key_row_is, below_further, keys_rise}
use Rattle.nc_protocol.proofs.Parts.{all_at, all_from, kept_contains, contains_kept}
use Rattle.nc_protocol.proofs.PlaceLemmas.{below_is_below, last_of}
use Rattle.nc_protocol.proofs.OwnLemmas.{HasLast, last_found, some_is, leaf_is_no_list, own_is_subtree}

block_ancestors : (tables : Tables) (rows : List Row) (steps : List Step) → IsDataTree tables rows → AncestorsStand tables steps (block_at rows steps)
block_ancestors tables rows steps tree before after row above step next rest node is path below node_is stands =
    let cut = filter_cut (λ (inner : Row). is_at_or_below steps inner.path) rows before after row is in
    let over : Row = record { path = record { steps = above ++ step ∷ [] }; value = None } in
    let has = tree.ancestors cut.front cut.rest row above step next rest node cut.whole path (above ++ step ∷ [], refl) node_is stands in
    subst (λ (front : List Row). Contains front over) (sym cut.in_front)
    (contains_kept (λ (inner : Row). is_at_or_below steps inner.path) over cut.front has ((below_is_below steps over.path).1 below))

-- the rows at and below a node of a data tree
pub block_is_subtree : (tables : Tables) (rows : List Row) (steps : List Step) → IsDataTree tables rows → IsSubtree tables steps (block_at rows steps)
block_is_subtree tables rows steps tree = record {
  below = λ k d within. (below_is_below steps _).0 (filter_passes test rows k d within);
  paths = All-filter test (λ (row : Row). IsPathOf tables row.path) rows tree.paths;
  distinct = pairs_filter (λ (row : Row) (later : Row). row.path ≢ later.path) test rows tree.distinct;
  ordered = pairs_filter (λ (row : Row) (later : Row). ¬ IsBefore tables later.path row.path) test rows tree.ordered;
  together = together_filter rows test tree.together;
  values = All-filter test (HasItsValue tables) rows tree.values;
  keys = keys_follow_filter tables rows test tree.keys keep;
  ancestors = block_ancestors tables rows steps tree;
  cases = λ row other above rest others step beside choice case another here there. tree.cases row other above rest others step beside choice case another
      (kept_contains test row rows here) (kept_contains test other rows there);
}
  where
    test : Row → Bool
    test row = is_at_or_below steps row.path

    keep : (row : Row) (above : List Step) (step : Step) (node : Node) (key : Row) → Contains rows row → LeadsTo tables above step node row → node.kind ≡ ListKind →
        Contains (key_rows row.path.steps node.keys step.keys) key → test row ≡ true → test key ≡ true
    keep row above step node key here leads list has passes =
        let found = key_row_is row.path.steps node.keys step.keys key has in
        let below = (below_is_below steps row.path).0 passes in
        let last : List Step = record { node = found.0; keys = [] } ∷ [] in
        (below_is_below steps key.path).1 (below.0 ++ last, found.2 ∙ below_further steps row.path.steps last below.0 below.1)

pub nothing_is_subtree : (tables : Tables) (steps : List Step) → IsSubtree tables steps []
nothing_is_subtree tables steps = record {
  below = λ k d within. absurd (omega (arith, within));
  paths = λ k d within. absurd (omega (arith, within));
  distinct = λ i j d less within. absurd (omega (arith, within));
  ordered = λ i j d less within. absurd (omega (arith, within));
  together = λ first between last row other steps is below beside. absurd (no_element (first ++ row ∷ between) last other is);
  values = λ k d within. absurd (omega (arith, within));
  keys = λ before after row above step node is leads list. absurd (no_element before after row is);
  ancestors = λ before after row above step next rest node is path below node_is stands. absurd (no_element before after row is);
  cases = λ row other above rest others step beside choice case another here there path besides in_case in_another. absurd (omega (arith, here.1));
}

-- the rows that a node has by itself, by its last step and its data node
pub own_rows_are : (tables : Tables) (path : Path) (value : Option (List ℕ)) (above : List Step) (step : Step) (node : Node) →
    path.steps ≡ above ++ step ∷ [] → slice_get tables.nodes step.node ≡ Some node → rows_of_node tables path value ≡ own_rows node.kind node.keys path step.keys value
own_rows_are tables path value above step node path_is node_is =
    ap (λ at. option_map_or (λ of. own_rows of.kind of.keys path (option_map_or (λ last. last.keys) (last_or None path.steps) []) value) at []) found
    ∙ ap (λ at. own_rows node.kind node.keys path (option_map_or (λ last. last.keys) at []) value) last
  where
    last : last_or None path.steps ≡ Some step
    last = ap (last_or None) path_is ∙ last_of None above step

    found : node_of tables path.steps ≡ Some node
    found = ap (option_and_then (λ at. slice_get tables.nodes at.node)) last ∙ node_is

-- the rows that a merged node has by itself
pub fresh_is_subtree : (tables : Tables) (path : Path) (value : Option (List ℕ)) → HasProperNodes tables → IsPathOf tables path → IsMergeValue tables path value →
    IsSubtree tables path.steps (rows_of_node tables path value)
fresh_is_subtree tables path value proper a_path merge =
    subst (IsSubtree tables path.steps) (sym (own_rows_are tables path value end.above end.step node.0 end.is node.1)) (by node.0.kind refl)
  where
    end : HasLast path.steps
    end = last_found path.steps a_path.names.steps

    node : (node : Node) × (slice_get tables.nodes end.step.node ≡ Some node)
    node = some_is (λ (node : Node). HasAllKeys node end.step) (slice_get tables.nodes end.step.node)
        (all_at (λ (step : Step). IsSomeAnd (slice_get tables.nodes step.node) (λ node. HasAllKeys node step)) path.steps end.step a_path.instances
        (subst (λ (steps : List Step). Contains steps end.step) (sym end.is) (contains_last end.above end.step)))

    merged : IsTrue (has_value node.0.kind) → IsRowValue node.0.kind end.step value
    merged = merge.own end.above end.step node.0 end.is node.1

    -- a node that is no list has one row
    alone : (own : Option (List ℕ)) → node.0.kind ≢ ListKind → IsRowValue node.0.kind end.step own → IsSubtree tables path.steps (record { path = path; value = own } ∷ [])
    alone own no_list valued =
        own_is_subtree tables path own end.above end.step node.0 [] end.is node.1 (λ k d within. absurd (omega (arith, within)))
        proper a_path (λ i j d less within. absurd (omega (arith, within))) (λ list. absurd (no_list list)) valued

    by : (kind : Kind) → node.0.kind ≡ kind → IsSubtree tables path.steps (own_rows kind node.0.keys path end.step.keys value)
    by (Container true) is = alone None (λ list. let clash : Container true ≡ ListKind = sym is ∙ list in cc) (subst (λ (kind : Kind). IsRowValue kind end.step None) (sym is) (refl, refl))
    by (Container false) is = nothing_is_subtree tables path.steps
    by Leaf is = alone value (λ list. leaf_is_no_list (sym is ∙ list)) (merged (ap has_value is))
    by LeafList is = alone value (λ list. let clash : LeafList ≡ ListKind = sym is ∙ list in cc) (merged (ap has_value is))
    by ListKind is =
        own_is_subtree tables path None end.above end.step node.0 node.0.keys end.is node.1 (all_from _ node.0.keys (λ key has. proper.keys end.step.node key node.0 node.1 has))
        proper a_path (keys_rise node.0.keys (proper.keys_apart end.step.node node.0 node.1)) (λ list. refl) (subst (λ (kind : Kind). IsRowValue kind end.step None) (sym is) refl)
