-- Which rows the elements of one level pick, level by level from the top of the data tree down.
use Rattle.std.specs.Prelude.{◌≡◌, ◌==◌, ◌&&◌, ◌||◌, ◌+◌, ℕ, Bool, true, false, not, if◌then◌else◌, List, [], ◌∷◌}
use Rattle.std.specs.Prelude.{Option, Some, None, drop, length, option_map, slice_get, take}
use Rattle.std.specs.List.{list_all, list_any}
use Rattle.std.specs.Option.{option_map_or}
use Rattle.nc_names.specs.declared.path.Row.{Row}
use Rattle.nc_message.specs.declared.tree.Elem.{Elem}
use Rattle.nc_schema.specs.Tables.{Tables}
use Rattle.nc_protocol.specs.Filter.{is_containment, is_content_match, is_of_matches, is_of_name, is_of_text, level_of}
use Rattle.nc_protocol.specs.Filter.{meets, selects}
use Rattle.nc_filter.specs.inner.Levels.{is_free}

-- the data node at a depth of the path to a row, the top being at depth 0
abbrev pub node_at : ℕ → Row → Option ℕ
node_at depth row = option_map (λ step. step.node) (slice_get row.path.steps depth)

-- the data node at a depth of the path to the first of some rows
abbrev pub first_node : ℕ → List Row → Option ℕ
first_node depth [] = None
first_node depth (row ∷ rows) = node_at depth row

-- both are the same data node, or neither is one
abbrev pub is_number : Option ℕ → Option ℕ → Bool
is_number None None = true
is_number (Some a) (Some b) = a == b
is_number a b = false

-- a row is at a data node, or below it
abbrev pub has_node : ℕ → ℕ → Row → Bool
has_node depth node row = is_number (node_at depth row) (Some node)

-- the path to a row ends at a depth
abbrev pub ends : ℕ → Row → Bool
ends depth row = length row.path.steps == depth + 1

-- an element has the name of the data node of a number
abbrev pub is_named : Tables → ℕ → Elem → Bool
is_named tables node elem = option_map_or (is_of_name elem) (slice_get tables.nodes node) false

-- an element that is neither a content match nor a containment node
abbrev pub is_selection : Elem → Bool
is_selection elem = not (is_content_match elem) && not (is_containment elem)

-- the level of an element selects a row, in the instance at a depth above the row
abbrev pub within : Tables → List Row → ℕ → Row → Elem → Bool
within tables rows depth row elem =
    selects tables rows row (level_of elem) (take depth row.path.steps) (drop depth row.path.steps)

-- what an element says of a row at or below a node that it names, at that depth
abbrev pub says : Tables → List Row → ℕ → Row → Elem → Bool
says tables rows depth row elem =
    if is_content_match elem then meets tables elem (take depth row.path.steps) row
    else (if is_containment elem then within tables rows (depth + 1) row elem else true)

-- one of the elements of a level picks a row, in an instance at a depth in which their content matches hold
abbrev pub picks_at : Tables → List Row → ℕ → List Elem → Row → ℕ → Bool
picks_at tables rows depth level row node =
    list_any (λ elem. is_named tables node elem && says tables rows depth row elem) level

-- so it is with the data node to which the row's path leads at that depth, if it goes so far
abbrev pub picked : Tables → List Row → ℕ → List Elem → Row → Bool
picked tables rows depth level row = option_map_or (picks_at tables rows depth level row) (node_at depth row) false

-- the level of an element picks a row, where its content matches hold
abbrev pub opens : Tables → List Row → ℕ → Row → Elem → Bool
opens tables rows depth row elem = is_of_matches (level_of elem) || picked tables rows depth (level_of elem) row

-- the level of an element has no content match
abbrev pub is_plain : Elem → Bool
is_plain elem = list_all is_free elem.parts

-- the level of an element has a content match
abbrev pub is_guarded : Elem → Bool
is_guarded elem = not (is_plain elem)

-- a row is where a content match of that text stands
abbrev pub is_matched : List Elem → ℕ → Row → Bool
is_matched elems depth row = ends depth row && list_any (λ elem. is_content_match elem && is_of_text elem row) elems

-- to what was found come those rows of some that pass a test; in what order, and how often, is left open
abbrev pub Adds : List Row → List Row → (Row → Bool) → List Row → Type 0
Adds before now passes rows =
    (test : Row → Bool) → list_any test now ≡ (list_any test before || list_any (λ row. passes row && test row) rows)
