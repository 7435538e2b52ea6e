-- What a filter keeps: rows in their order, the subtree of a selection node, and a data tree of a data tree.
use Rattle.std.proofs.Common.{◌≡◌, ◌≢◌, ◌⊎◌, ◌&&◌, ◌||◌, ◌==◌, ℕ, Bool, true, false, not, List, [], ◌∷◌, ◌++◌, Some, None, refl, sym, ap, subst, ◌∙◌, inl, inr, if◌then◌else◌}
use Rattle.std.proofs.lemmas.Bool.Decides.{Decides-eqb}
use Rattle.std.proofs.lemmas.List.{append_assoc, append-nil}
use Rattle.std.proofs.lemmas.List.Elements.{All-filter}
use Rattle.std.specs.List.{Contains, filter, last_or, list_any}
use Rattle.std.specs.Option.{option_map_or}
use Rattle.std.specs.Prelude.{Option, IsSomeAnd, option_map, slice_get}
use Rattle.nc_message.specs.declared.tree.Elem.{Elem}
use Rattle.nc_names.specs.declared.path.Row.{Row}
use Rattle.nc_names.specs.declared.path.Step.{Step}
use Rattle.nc_names.specs.Same.{is_at_or_below}
use Rattle.nc_schema.specs.declared.node.Kind.TheVariants.{List as ListKind}
use Rattle.nc_schema.specs.declared.node.Node.{Node}
use Rattle.nc_schema.specs.Blocks.{above_last, above_from}
use Rattle.nc_schema.specs.Configuration.{LeadsTo, key_rows, HasItsValue, IsAtOrBelow, IsDataTree, AncestorsStand}
use Rattle.nc_schema.specs.Order.{IsBefore, keys_above}
use Rattle.nc_schema.specs.Paths.{IsPathOf}
use Rattle.nc_schema.specs.Proper.{IsKeyIn, IsProperSchema}
use Rattle.nc_schema.specs.Tables.{Tables}
use Rattle.nc_protocol.specs.Filter.{chosen, comes_with, holds, is_containment, is_content_match, is_key_of_entry, is_of_matches, is_of_node, level_of, meets, selected, selects}
use Rattle.nc_protocol.specs.Laws.{EmptyFilterSelectsNothing, SelectedIsDataTree, SelectionNodeSelectsSubtree}
use Rattle.nc_protocol.proofs.AboveLemmas.{some_passes}
use Rattle.nc_protocol.proofs.KeyLemmas.{filter_cut, filter_none, keys_follow_filter, together_filter, key_row_is}
use Rattle.nc_protocol.proofs.ListLemmas.{none_passes, pairs_filter}
use Rattle.nc_protocol.proofs.OwnLemmas.{leaf_is_no_list, some_at}
use Rattle.nc_protocol.proofs.Parts.{all_at, kept_contains, contains_kept}
use Rattle.nc_protocol.proofs.PlaceLemmas.{below_is_below, last_of}

either : (a b : Bool) → (a || b) ≡ true → (a ≡ true) ⊎ (b ≡ true)
either true b e = inl refl
either false b e = inr e

or_first : (a b : Bool) → a ≡ true → (a || b) ≡ true
or_first a b e = ap (λ (x : Bool). x || b) e

or_second : (a b : Bool) → b ≡ true → (a || b) ≡ true
or_second true b e = refl
or_second false b e = e

both : (a b : Bool) → (a && b) ≡ true → (a ≡ true) × (b ≡ true)
both true b e = (refl, e)
both false b e = let clash : false ≡ true = e in cc

and_true : (a b : Bool) → a ≡ true → b ≡ true → (a && b) ≡ true
and_true a b e f = ap (λ (x : Bool). x && b) e ∙ f

passes_any : {X : Type 0} (p : X → Bool) (xs : List X) (x : X) → Contains xs x → p x ≡ true → list_any p xs ≡ true
passes_any p xs x has passes = by (list_any p xs) refl
  where
    by : (b : Bool) → list_any p xs ≡ b → list_any p xs ≡ true
    by true e = e
    by false e = let fails : p x ≡ false = none_passes p xs x e has in let clash : false ≡ true = sym fails ∙ passes in cc

-- ---- steps but the last
from_last : (first : Step) (above : List Step) (step : Step) → above_from first (above ++ step ∷ []) ≡ first ∷ above
from_last first [] step = refl
from_last first (next ∷ above) step = ap (λ steps. first ∷ steps) (from_last next above step)

pub above_of_last : (above : List Step) (step : Step) → above_last (above ++ step ∷ []) ≡ above
above_of_last [] step = refl
above_of_last (first ∷ above) step = from_last first above step

from_longer : (first : Step) (above : List Step) (step next : Step) (rest : List Step) →
    above_from first (above ++ step ∷ next ∷ rest) ≡ first ∷ (above ++ step ∷ above_from next rest)
from_longer first [] step next rest = refl
from_longer first (more ∷ above) step next rest = ap (λ steps. first ∷ steps) (from_longer more above step next rest)

pub above_longer : (above : List Step) (step next : Step) (rest : List Step) →
    above_last (above ++ step ∷ next ∷ rest) ≡ (above ++ step ∷ []) ++ above_from next rest
above_longer [] step next rest = refl
above_longer (first ∷ above) step next rest =
    from_longer first above step next rest ∙ ap (λ steps. first ∷ steps) (sym (append_assoc above (step ∷ []) (above_from next rest)))

-- ---- keys
key_test : (tables : Tables) (above : List Step) (step : Step) →
    is_key_of_entry tables (above ++ step ∷ []) ≡ list_any (λ key. key == step.node) (keys_above tables (option_map (λ over. over.node) (last_or None above)))
key_test tables above step =
    ap (λ (steps : List Step). option_map_or (λ (one : Step). list_any (λ key. key == one.node)
    (keys_above tables (option_map (λ over. over.node) (last_or None steps)))) (last_or None (above ++ step ∷ [])) false) (above_of_last above step)
    ∙ ap (λ (o : Option Step). option_map_or (λ (one : Step). list_any (λ key. key == one.node)
    (keys_above tables (option_map (λ over. over.node) (last_or None above)))) o false) (last_of None above step)

no_list_is_key : (tables : Tables) (at : Option ℕ) (number : ℕ) (node : Node) → IsProperSchema tables →
    slice_get tables.nodes number ≡ Some node → node.kind ≡ ListKind → list_any (λ key. key == number) (keys_above tables at) ≡ true → ⊥
no_list_is_key tables None number node proper is list e = let clash : false ≡ true = e in cc
no_list_is_key tables (Some over) number node proper is list e = by (slice_get tables.nodes over) refl e
  where
    by : (o : Option Node) → slice_get tables.nodes over ≡ o → list_any (λ key. key == number) (option_map_or (λ node. node.keys) o []) ≡ true → ⊥
    by None above_is found = let clash : false ≡ true = found in cc
    by (Some above) above_is found =
        let key = some_passes (λ key. key == number) above.keys found in
        let same : key.0 ≡ number = (Decides-eqb key.0 number).0 key.2 in
        let leafs = all_at (λ (k : ℕ). IsSomeAnd (slice_get tables.nodes k) (IsKeyIn over)) above.keys key.0 (proper.places.keys over above above_is).leafs key.1 in
        let leaf = some_at (IsKeyIn over) (slice_get tables.nodes key.0) node leafs (ap (slice_get tables.nodes) same ∙ is) in
        leaf_is_no_list (sym leaf.kind ∙ list)

-- ---- why a row is kept
module _ (tables : Tables) (elem : Elem) (rows : List Row) where
  record IsKept (row : Row) : Type 0 where
    other : Row
    has : Contains (chosen tables elem rows) other
    why : IsAtOrBelow row.path.steps other.path ⊎ ((is_key_of_entry tables row.path.steps ≡ true) × IsAtOrBelow (above_last row.path.steps) other.path)

  reason : (row : Row) → list_any (λ other. comes_with tables other row) (chosen tables elem rows) ≡ true → IsKept row
  reason row e =
      let found = some_passes (λ other. comes_with tables other row) (chosen tables elem rows) e in
      record {
        other = found.0;
        has = found.1;
        why = by found.0 (either (is_at_or_below row.path.steps (found.0).path)
            (is_key_of_entry tables row.path.steps && is_at_or_below (above_last row.path.steps) (found.0).path) found.2);
      }
    where
      by : (other : Row) → (is_at_or_below row.path.steps other.path ≡ true) ⊎ ((is_key_of_entry tables row.path.steps && is_at_or_below (above_last row.path.steps) other.path) ≡ true) →
          IsAtOrBelow row.path.steps other.path ⊎ ((is_key_of_entry tables row.path.steps ≡ true) × IsAtOrBelow (above_last row.path.steps) other.path)
      by other (inl e) = inl ((below_is_below row.path.steps other.path).0 e)
      by other (inr e) =
          let parts = both (is_key_of_entry tables row.path.steps) (is_at_or_below (above_last row.path.steps) other.path) e in
          inr (parts.0, (below_is_below (above_last row.path.steps) other.path).0 parts.1)

  kept_above : (row other : Row) → Contains (chosen tables elem rows) other → IsAtOrBelow row.path.steps other.path →
      list_any (λ other. comes_with tables other row) (chosen tables elem rows) ≡ true
  kept_above row other has below =
      passes_any (λ other. comes_with tables other row) (chosen tables elem rows) other has
      (or_first (is_at_or_below row.path.steps other.path) (is_key_of_entry tables row.path.steps && is_at_or_below (above_last row.path.steps) other.path)
      ((below_is_below row.path.steps other.path).1 below))

  kept_key : (row other : Row) → Contains (chosen tables elem rows) other → is_key_of_entry tables row.path.steps ≡ true → IsAtOrBelow (above_last row.path.steps) other.path →
      list_any (λ other. comes_with tables other row) (chosen tables elem rows) ≡ true
  kept_key row other has key below =
      passes_any (λ other. comes_with tables other row) (chosen tables elem rows) other has
      (or_second (is_at_or_below row.path.steps other.path) (is_key_of_entry tables row.path.steps && is_at_or_below (above_last row.path.steps) other.path)
      (and_true (is_key_of_entry tables row.path.steps) (is_at_or_below (above_last row.path.steps) other.path) key
      ((below_is_below (above_last row.path.steps) other.path).1 below)))

-- ---- the keys of an entry that is kept, and what stands above a row that is kept
module _ (tables : Tables) (elem : Elem) (rows : List Row) (proper : IsProperSchema tables) where
  key_kept : (row : Row) (above : List Step) (step : Step) (node : Node) (key : Row) → Contains rows row → LeadsTo tables above step node row → node.kind ≡ ListKind →
      Contains (key_rows row.path.steps node.keys step.keys) key →
      list_any (λ other. comes_with tables other row) (chosen tables elem rows) ≡ true → list_any (λ other. comes_with tables other key) (chosen tables elem rows) ≡ true
  key_kept row above step node key here leads list has passes = by (reason tables elem rows row passes)
    where
      found : (number : ℕ) × Contains node.keys number × (key.path.steps ≡ row.path.steps ++ record { node = number; keys = [] } ∷ [])
      found = key_row_is row.path.steps node.keys step.keys key has

      last : Step
      last = record { node = found.0; keys = [] }

      entry_above : above_last key.path.steps ≡ row.path.steps
      entry_above = ap above_last found.2 ∙ above_of_last row.path.steps last

      keys_are : keys_above tables (option_map (λ over. over.node) (last_or None row.path.steps)) ≡ node.keys
      keys_are =
          ap (λ (steps : List Step). keys_above tables (option_map (λ over. over.node) (last_or None steps))) leads.path
          ∙ ap (λ (o : Option Step). keys_above tables (option_map (λ over. over.node) o)) (last_of None above step)
          ∙ ap (λ (o : Option Node). option_map_or (λ node. node.keys) o []) leads.node_is

      is_key : is_key_of_entry tables key.path.steps ≡ true
      is_key =
          ap (is_key_of_entry tables) found.2 ∙ key_test tables row.path.steps last
          ∙ ap (list_any (λ key. key == found.0)) keys_are
          ∙ passes_any (λ key. key == found.0) node.keys found.0 found.1 ((Decides-eqb found.0 found.0).1 refl)

      by : IsKept tables elem rows row → list_any (λ other. comes_with tables other key) (chosen tables elem rows) ≡ true
      by kept = from kept.other kept.has kept.why
        where
          from : (other : Row) → Contains (chosen tables elem rows) other →
              IsAtOrBelow row.path.steps other.path ⊎ ((is_key_of_entry tables row.path.steps ≡ true) × IsAtOrBelow (above_last row.path.steps) other.path) →
              list_any (λ other. comes_with tables other key) (chosen tables elem rows) ≡ true
          from other inside (inl below) = kept_key tables elem rows key other inside is_key (subst (λ (steps : List Step). IsAtOrBelow steps other.path) (sym entry_above) below)
          from other inside (inr (entry_is_key, below)) =
              absurd (no_list_is_key tables (option_map (λ over. over.node) (last_or None above)) step.node node proper leads.node_is list
              (sym (key_test tables above step) ∙ ap (is_key_of_entry tables) (sym leads.path) ∙ entry_is_key))

  ancestors_kept : IsDataTree tables rows → AncestorsStand tables [] (selected tables elem rows)
  ancestors_kept tree before after row above step next rest node is path below node_is stands =
      let cut = filter_cut (λ (row : Row). list_any (λ other. comes_with tables other row) (chosen tables elem rows)) rows before after row is in
      let has = tree.ancestors cut.front cut.rest row above step next rest node cut.whole path below node_is stands in
      subst (λ (front : List Row). Contains front over) (sym cut.in_front)
      (contains_kept (λ (row : Row). list_any (λ other. comes_with tables other row) (chosen tables elem rows)) over cut.front has (by (reason tables elem rows row cut.passes)))
    where
      over : Row
      over = record { path = record { steps = above ++ step ∷ [] }; value = None }

      by : IsKept tables elem rows row → list_any (λ other. comes_with tables other over) (chosen tables elem rows) ≡ true
      by kept = from kept.other kept.has kept.why
        where
          from : (other : Row) → Contains (chosen tables elem rows) other →
              IsAtOrBelow row.path.steps other.path ⊎ ((is_key_of_entry tables row.path.steps ≡ true) × IsAtOrBelow (above_last row.path.steps) other.path) →
              list_any (λ other. comes_with tables other over) (chosen tables elem rows) ≡ true
          from other inside (inl (more, longer)) =
              kept_above tables elem rows over other inside (
                (next ∷ rest) ++ more,
                longer ∙ ap (λ (steps : List Step). steps ++ more) path ∙ append_assoc above (step ∷ next ∷ rest) more
                    ∙ sym (append_assoc above (step ∷ []) ((next ∷ rest) ++ more)),
              )
          from other inside (inr (key, (more, longer))) =
              kept_above tables elem rows over other inside (
                above_from next rest ++ more,
                longer ∙ ap (λ (steps : List Step). above_last steps ++ more) path
                    ∙ ap (λ (steps : List Step). steps ++ more) (above_longer above step next rest) ∙ append_assoc (above ++ step ∷ []) (above_from next rest) more,
              )

pub selected_is_data_tree : SelectedIsDataTree
selected_is_data_tree tables elem rows proper tree = record {
  below = All-filter test (λ (row : Row). IsAtOrBelow [] row.path) rows tree.below;
  paths = All-filter test (λ (row : Row). IsPathOf tables row.path) rows tree.paths;
  distinct = pairs_filter (λ (row : Row) (later : Row). row.path ≢ later.path) test rows tree.distinct;
  ordered = pairs_filter (λ (row : Row) (later : Row). ¬ IsBefore tables later.path row.path) test rows tree.ordered;
  together = together_filter rows test tree.together;
  values = All-filter test (HasItsValue tables) rows tree.values;
  keys = keys_follow_filter tables rows test tree.keys (key_kept tables elem rows proper);
  ancestors = ancestors_kept tables elem rows proper tree;
  cases = λ row other above rest others step beside choice case another here there. tree.cases row other above rest others step beside choice case another
      (kept_contains test row rows here) (kept_contains test other rows there);
}
  where
    test : Row → Bool
    test row = list_any (λ other. comes_with tables other row) (chosen tables elem rows)

-- ---- an empty filter
no_level : (tables : Tables) (rows : List Row) (row : Row) (level : List Elem) (steps : List Step) → level ≡ [] → selects tables rows row level [] steps ≡ false
no_level tables rows row level [] none = ap (λ (l : List Elem). holds tables rows [] l && is_of_matches l) none
no_level tables rows row level (step ∷ steps) none = ap (λ (l : List Elem). selects tables rows row l [] (step ∷ steps)) none

pub empty_filter_selects_nothing : EmptyFilterSelectsNothing
empty_filter_selects_nothing tables elem rows none =
    ap (λ (few : List Row). filter (λ row. list_any (λ other. comes_with tables other row) few) rows)
    (filter_none (λ row. selects tables rows row (level_of elem) [] row.path.steps) rows (λ row has. no_level tables rows row (level_of elem) row.path.steps none))
    ∙ filter_none (λ row. false) rows (λ row has. refl)

-- ---- a selection node at the top
no_matches_hold : (tables : Tables) (rows : List Row) (above : List Step) (level : List Elem) → list_any is_content_match level ≡ false → holds tables rows above level ≡ true
no_matches_hold tables rows above [] none = refl
no_matches_hold tables rows above (one ∷ level) none = by (is_content_match one) refl none (no_matches_hold tables rows above level)
  where
    by : (b : Bool) → is_content_match one ≡ b → (b || list_any is_content_match level) ≡ false →
        (list_any is_content_match level ≡ false → holds tables rows above level ≡ true) → holds tables rows above (one ∷ level) ≡ true
    by true e none more = let clash : true ≡ false = none in cc
    by false e none more = ap (λ (b : Bool). (not b || list_any (meets tables one above) rows) && holds tables rows above level) e ∙ more none

below_itself : (row : Row) → IsAtOrBelow row.path.steps row.path
below_itself row = ([], sym (append-nil row.path.steps))

pub selection_node_selects_subtree : SelectionNodeSelectsSubtree
selection_node_selects_subtree tables elem one rows row step rest inside none no_match no_containment named has path =
    contains_kept (λ (row : Row). list_any (λ other. comes_with tables other row) (chosen tables elem rows)) row rows has
    (kept_above tables elem rows row row
    (contains_kept (λ (row : Row). selects tables rows row (level_of elem) [] row.path.steps) row rows has chosen_itself) (below_itself row))
  where
    picks : is_of_node tables one step && (if is_content_match one then meets tables one [] row
        else (if is_containment one then selects tables rows row (level_of one) ([] ++ step ∷ []) rest else true)) ≡ true
    picks = and_true _ _ named
        (ap (λ (b : Bool). if b then meets tables one [] row else (if is_containment one then selects tables rows row (level_of one) ([] ++ step ∷ []) rest else true)) no_match
        ∙ ap (λ (b : Bool). if b then selects tables rows row (level_of one) ([] ++ step ∷ []) rest else true) no_containment)

    chosen_itself : selects tables rows row (level_of elem) [] row.path.steps ≡ true
    chosen_itself =
        ap (selects tables rows row (level_of elem) []) path
        ∙ and_true _ _ (no_matches_hold tables rows [] (level_of elem) none)
        (or_second (is_of_matches (level_of elem)) _ (passes_any _ (level_of elem) one inside picks))
