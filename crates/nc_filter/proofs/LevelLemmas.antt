-- What is asked of the elements of a level, as it is asked of the parts in which they stand.
use Rattle.std.proofs.Common.{◌≡◌, ◌&&◌, ◌||◌, Bool, true, false, List, [], ◌∷◌, Some, None, refl, sym, ap, ◌∙◌, if◌then◌else◌}
use Rattle.std.specs.Prelude.{Option, is_some}
use Rattle.std.specs.List.{cons_option, filter_map, last_or, list_all, list_any}
use Rattle.std.specs.Option.{option_map_or}
use Rattle.nc_message.specs.declared.tree.Elem.{Elem}
use Rattle.nc_message.specs.declared.tree.Part.{Part}
use Rattle.nc_names.specs.Same.{is_same_path}
use Rattle.nc_names.specs.declared.path.Row.{Row}
use Rattle.nc_names.specs.declared.path.Step.{Step}
use Rattle.nc_schema.specs.Blocks.{above_last}
use Rattle.nc_schema.specs.Tables.{Tables}
use Rattle.nc_protocol.specs.Elements.{elem_of}
use Rattle.nc_protocol.specs.Filter.{is_content_match, is_of_matches, is_of_node, is_of_text, meets}
use Rattle.nc_filter.specs.inner.Levels.{children, fits, is_element, is_part_match}

-- a test of all elements, as one of the parts
pub all_parts : (test : Elem → Bool) (parts : List Part) → list_all test (filter_map elem_of parts) ≡ list_all (λ part. option_map_or test (elem_of part) true) parts
all_parts test [] = refl
all_parts test (part ∷ parts) = by (elem_of part) (all_parts test parts)
  where
    by : (o : Option Elem) → list_all test (filter_map elem_of parts) ≡ list_all (λ part. option_map_or test (elem_of part) true) parts →
        list_all test (cons_option o (filter_map elem_of parts)) ≡ (option_map_or test o true && list_all (λ part. option_map_or test (elem_of part) true) parts)
    by None more = more
    by (Some elem) more = ap (λ b. test elem && b) more

pub level_of_matches : (parts : List Part) → is_of_matches (filter_map elem_of parts) ≡ (list_any is_element parts && list_all is_part_match parts)
level_of_matches [] = refl
level_of_matches (part ∷ parts) = by (elem_of part) (level_of_matches parts)
  where
    by : (o : Option Elem) → is_of_matches (filter_map elem_of parts) ≡ (list_any is_element parts && list_all is_part_match parts) →
        is_of_matches (cons_option o (filter_map elem_of parts)) ≡ ((is_some o || list_any is_element parts) && (option_map_or is_content_match o true && list_all is_part_match parts))
    by None more = more
    by (Some elem) more = ap (λ b. is_content_match elem && b) (all_parts is_content_match parts)

-- the rows in an instance that fit an element are those that meet it there
pub any_children : (tables : Tables) (elem : Elem) (above : List Step) (rows : List Row) → list_any (fits tables elem) (children rows above) ≡ list_any (meets tables elem above) rows
any_children tables elem above [] = refl
any_children tables elem above (row ∷ rows) = by (is_same_path (above_last row.path.steps) above) refl (any_children tables elem above rows)
  where
    by : (b : Bool) → is_same_path (above_last row.path.steps) above ≡ b → list_any (fits tables elem) (children rows above) ≡ list_any (meets tables elem above) rows →
        list_any (fits tables elem) (children (row ∷ rows) above) ≡ list_any (meets tables elem above) (row ∷ rows)
    by true e more =
        ap (λ c. list_any (fits tables elem) (if c then row ∷ children rows above else children rows above)) e
        ∙ ap (λ b. fits tables elem row || b) more
        ∙ ap (λ c. (c && option_map_or (is_of_node tables elem) (last_or None row.path.steps) false && is_of_text elem row) || list_any (meets tables elem above) rows) (sym e)
    by false e more =
        ap (λ c. list_any (fits tables elem) (if c then row ∷ children rows above else children rows above)) e
        ∙ more
        ∙ ap (λ c. (c && option_map_or (is_of_node tables elem) (last_or None row.path.steps) false && is_of_text elem row) || list_any (meets tables elem above) rows) (sym e)
