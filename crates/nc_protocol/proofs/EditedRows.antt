-- Which rows an edit leaves, at its node and elsewhere.
use Rattle.std.proofs.Common.{◌≡◌, ◌⊎◌, ◌↔◌, ◌&&◌, ◌||◌, ℕ, Bool, true, false, cond, not, List, [], ◌∷◌, ◌++◌, Option, Some, None, refl, sym, ap, subst, ◌∙◌, inl, inr, arith}
use Rattle.std.proofs.lemmas.List.{append-nil}
use Rattle.std.proofs.lemmas.List.Elements.{filter-append, Contains-append_left, Contains-append_right, Contains-append_cases, All-nil}
use Rattle.std.proofs.lemmas.List.Folds.{list_any_none}
use Rattle.std.specs.List.{All, Contains, filter, list_any, last_or}
use Rattle.std.specs.Option.{option_map_or}
use Rattle.std.specs.Prelude.{Ok}
use Rattle.nc_names.specs.declared.path.Path.{Path}
use Rattle.nc_names.specs.declared.path.Place.{Place}
use Rattle.nc_names.specs.declared.path.Row.{Row}
use Rattle.nc_schema.specs.declared.node.Kind.{Kind}
use Rattle.nc_schema.specs.declared.node.Kind.TheVariants.{Container, Leaf, LeafList, List as ListKind}
use Rattle.nc_schema.specs.declared.node.Node.{Node}
use Rattle.nc_schema.specs.Configuration.{IsAtOrBelow, key_rows}
use Rattle.nc_schema.specs.Tables.{Tables}
use Rattle.nc_protocol.specs.declared.edit.Action.{Action}
use Rattle.nc_protocol.specs.declared.edit.Action.TheVariants.{Nothing, Merge, Create, Replace, Delete, Remove}
use Rattle.nc_protocol.specs.declared.edit.Edit.{Edit}
use Rattle.nc_protocol.specs.declared.request.Cause.{Cause}
use Rattle.nc_protocol.specs.Edited.{new_block, place_by, left_by, refusal, unless_refused}
use Rattle.nc_schema.specs.Blocks.{at_node, own_rows, rows_of_node, with_block}
use Rattle.nc_schema.specs.Kinds.{has_value}
use Rattle.nc_protocol.specs.Laws.{EditLeaves}
use Rattle.nc_protocol.specs.ProperEdit.{IsProperAction}
use Rattle.nc_names.specs.Same.{is_at_or_below}
use Rattle.nc_schema.specs.Standing.{node_of, block_at, exists, steps_before, excludes}
use Rattle.nc_protocol.proofs.EditLemmas.{ok_same}
use Rattle.nc_protocol.proofs.BoolLemmas.{is_false, neither, not_both}
use Rattle.nc_protocol.proofs.KeyLemmas.{filter_none, filter_whole, IsKeyRow, key_row_of}
use Rattle.nc_protocol.proofs.ListLemmas.{all_one, all_cons, none_passes}
use Rattle.nc_protocol.proofs.Parts.{all_at, all_from, contains_kept, kept_contains, kept_true}
use Rattle.nc_protocol.proofs.PlaceLemmas.{below_is_below}

-- the rows of a block go to a place among the others
module _ (tables : Tables) (rows : List Row) (path : Path) (place : Place) (block : List Row) (below : All (λ row. IsAtOrBelow path.steps row.path) block) where
  abbrev inside : Row → Bool
  inside row = is_at_or_below path.steps row.path

  abbrev stays : Row → Bool
  stays row = not (inside row || list_any (λ added. excludes tables added.path.steps row.path.steps) block)

  abbrev before : Row → Bool
  before row = steps_before tables rows place [] row.path.steps path.steps

  abbrev others : List Row
  others = filter stays rows

  none_inside : (t : Row → Bool) (row : Row) → Contains (filter t others) row → inside row ≡ false
  none_inside t row has = (not_both (inside row) _ (kept_true stays row rows (kept_contains t row others has))).0

  pub block_is_there : block_at (with_block tables rows path place block) path.steps ≡ block
  block_is_there =
      filter-append inside (filter before others ++ block) (filter (λ row. not (before row)) others)
      ∙ (λ i. (filter-append inside (filter before others) block
      ∙ (λ j. filter_none inside (filter before others) (none_inside before) j ++ filter_whole inside block (λ row has. (below_is_below path.steps row.path).1 (all_at (λ (r : Row). IsAtOrBelow path.steps r.path) block row below has)) j)) i
      ++ filter_none inside (filter (λ row. not (before row)) others) (none_inside (λ row. not (before row))) i)
      ∙ append-nil block

  -- the other rows that stay
  pub others_stay : (row : Row) → ¬ IsAtOrBelow path.steps row.path →
      Contains (with_block tables rows path place block) row ↔ (Contains rows row × All (λ added. excludes tables added.path.steps row.path.steps ≡ false) block)
  others_stay row outside = (to, from)
    where
      of_others : (t : Row → Bool) → Contains (filter t others) row → Contains rows row × All (λ added. excludes tables added.path.steps row.path.steps ≡ false) block
      of_others t has =
          let stay = kept_true stays row rows (kept_contains t row others has) in (
            kept_contains stays row rows (kept_contains t row others has),
            all_from (λ (added : Row). excludes tables added.path.steps row.path.steps ≡ false) block
                (λ added there. none_passes (λ (b : Row). excludes tables b.path.steps row.path.steps) block added (not_both (inside row) _ stay).1 there),
          )

      by_first : Contains (filter before others) row ⊎ Contains block row → Contains rows row × All (λ added. excludes tables added.path.steps row.path.steps ≡ false) block
      by_first (inl has) = of_others before has
      by_first (inr has) = absurd (outside (all_at (λ (r : Row). IsAtOrBelow path.steps r.path) block row below has))

      by : Contains (filter before others ++ block) row ⊎ Contains (filter (λ r. not (before r)) others) row → Contains rows row × All (λ added. excludes tables added.path.steps row.path.steps ≡ false) block
      by (inl has) = by_first (Contains-append_cases (filter before others) block row has)
      by (inr has) = of_others (λ r. not (before r)) has

      to : Contains (with_block tables rows path place block) row → Contains rows row × All (λ added. excludes tables added.path.steps row.path.steps ≡ false) block
      to has = by (Contains-append_cases (filter before others ++ block) (filter (λ r. not (before r)) others) row has)

      from : Contains rows row × All (λ added. excludes tables added.path.steps row.path.steps ≡ false) block → Contains (with_block tables rows path place block) row
      from (has, free) = go (before row) refl
        where
          in_others : Contains others row
          in_others =
              contains_kept stays row rows has
              (neither (inside row) _ (is_false _ (λ e. outside ((below_is_below path.steps row.path).0 e))) (list_any_none (λ (added : Row). excludes tables added.path.steps row.path.steps) block free))

          go : (b : Bool) → before row ≡ b → Contains (with_block tables rows path place block) row
          go true e = Contains-append_left (filter before others ++ block) _ row (Contains-append_left (filter before others) block row (contains_kept before row others in_others e))
          go false e = Contains-append_right (filter before others ++ block) _ row (contains_kept (λ r. not (before r)) row others in_others (ap not e))

-- the rows that a node has by itself are at and below it
own_below : (tables : Tables) (path : Path) (value : Option (List ℕ)) → All (λ row. IsAtOrBelow path.steps row.path) (rows_of_node tables path value)
own_below tables path value = by (node_of tables path.steps) (option_map_or (λ step. step.keys) (last_or None path.steps) [])
  where
    itself : (own : Option (List ℕ)) → All (λ (row : Row). IsAtOrBelow path.steps row.path) (record { path = path; value = own } ∷ [])
    itself own = all_one (λ (row : Row). IsAtOrBelow path.steps row.path) (record { path = path; value = own }) ([], sym (append-nil path.steps))

    own : (kind : Kind) (keys : List ℕ) (values : List (List ℕ)) → All (λ (row : Row). IsAtOrBelow path.steps row.path) (own_rows kind keys path values value)
    own (Container true) keys values = itself None
    own (Container false) keys values = All-nil (λ (row : Row). IsAtOrBelow path.steps row.path)
    own Leaf keys values = itself value
    own LeafList keys values = itself value
    own ListKind keys values =
        all_cons (λ (row : Row). IsAtOrBelow path.steps row.path) (record { path = path; value = None }) (key_rows path.steps keys values) ([], sym (append-nil path.steps))
        (all_from (λ (row : Row). IsAtOrBelow path.steps row.path) (key_rows path.steps keys values) (λ row has. of_key row (key_row_of path.steps keys values row has)))
      where
        of_key : (row : Row) → IsKeyRow path.steps keys row → IsAtOrBelow path.steps row.path
        of_key row found = (record { node = found.number; keys = [] } ∷ [], (λ i. (found.is i).path.steps))

    by : (o : Option Node) (values : List (List ℕ)) → All (λ (row : Row). IsAtOrBelow path.steps row.path) (option_map_or (λ node. own_rows node.kind node.keys path values value) o [])
    by None values = All-nil (λ (row : Row). IsAtOrBelow path.steps row.path)
    by (Some node) values = own node.kind node.keys values

-- the block of an action that fits the schema is at and below the node
pub below_of : (tables : Tables) (rows : List Row) (path : Path) (action : Action) → IsProperAction tables path action → All (λ row. IsAtOrBelow path.steps row.path) (new_block tables rows path action)
below_of tables rows path Nothing fits = all_from (λ (row : Row). IsAtOrBelow path.steps row.path) (block_at rows path.steps) (λ row has. (below_is_below path.steps row.path).0 (kept_true _ row rows has))
below_of tables rows path (Merge value) fits = by (exists rows path.steps && not (at_node tables path has_value))
  where
    by : (there : Bool) → All (λ row. IsAtOrBelow path.steps row.path) (cond there (block_at rows path.steps) (rows_of_node tables path value))
    by true = all_from (λ (row : Row). IsAtOrBelow path.steps row.path) (block_at rows path.steps) (λ row has. (below_is_below path.steps row.path).0 (kept_true _ row rows has))
    by false = own_below tables path value
below_of tables rows path (Create new) fits = fits.rows.below
below_of tables rows path (Replace new) fits = fits.rows.below
below_of tables rows path Delete fits = λ k d within. absurd (omega (arith, within))
below_of tables rows path Remove fits = λ k d within. absurd (omega (arith, within))

pub left_is : (tables : Tables) (rows left : List Row) (edit : Edit) (refused : Option Cause) → unless_refused refused (left_by tables rows edit) ≡ Ok left → left_by tables rows edit ≡ left
left_is tables rows left edit (Some cause) is = cc
left_is tables rows left edit None is = ok_same _ _ is

pub edit_leaves : EditLeaves
edit_leaves = record {
  node = λ tables rights rows left edit fits is.
      ap (λ rs. block_at rs edit.path.steps) (sym (left_is tables rows left edit (refusal tables rights rows edit) is))
      ∙ block_is_there tables rows edit.path (place_by edit.action edit.place) (new_block tables rows edit.path edit.action) (below_of tables rows edit.path edit.action fits.action);
  others = λ tables rights rows left edit row fits is outside.
      subst (λ (rs : List Row). Contains rs row ↔ (Contains rows row × All (λ added. excludes tables added.path.steps row.path.steps ≡ false) (new_block tables rows edit.path edit.action)))
      (left_is tables rows left edit (refusal tables rights rows edit) is)
      (others_stay tables rows edit.path (place_by edit.action edit.place) (new_block tables rows edit.path edit.action) (below_of tables rows edit.path edit.action fits.action) row outside);
}
