-- The rows of a configuration as elements, in document order (RFC 7950 7.5.7, 7.6.5, 7.7.8 and 7.8.5): one for each
-- row, and for each container without presence that has a row below it.
use Rattle.std.specs.Prelude.{◌==◌, ◌&&◌, ◌+◌, ℕ, zero, suc, max, Bool, not, if◌then◌else◌, List, [], ◌∷◌, ◌++◌, length, fold, Option, Some, None, slice_get, option_map}
use Rattle.std.specs.List.{flat_map}
use Rattle.std.specs.Option.{option_map_or}
use Rattle.nc_names.specs.declared.path.Row.{Row}
use Rattle.nc_names.specs.declared.path.Step.{Step}
use Rattle.nc_message.specs.declared.tree.Part.{Part}
use Rattle.nc_message.specs.declared.tree.Part.TheVariants.{Child}
use Rattle.nc_schema.specs.Children.{is_same_number}
use Rattle.nc_schema.specs.Tables.{Tables}
use Rattle.nc_schema.specs.declared.node.Node.{Node}
use Rattle.nc_protocol.specs.Content.{text_parts}
use Rattle.nc_protocol.specs.ModuleNames.{value_bounds}

-- the data node through which a row's path leads at a depth, from 0 at the top
abbrev pub node_at : ℕ → Row → Option ℕ
node_at depth row = option_map (λ step. step.node) (slice_get row.path.steps depth)

-- the row's path ends there
abbrev pub ends_at : ℕ → Row → Bool
ends_at depth row = length row.path.steps == depth + 1

-- the row stands in the element in which the row before it stands: its path leads on through the same data node. One
-- that ends there begins an element, as each list entry, leaf and container with presence does
abbrev pub goes_on : ℕ → Row → Row → Bool
goes_on depth before row = is_same_number (node_at depth before) (node_at depth row) && not (ends_at depth row)

-- one row more before rows that are cut
abbrev pub onto_cut : (Row → Row → Bool) → Row → List (List Row) → List (List Row)
onto_cut goes row [] = (row ∷ []) ∷ []
onto_cut goes row ([] ∷ later) = (row ∷ []) ∷ later
onto_cut goes row ((next ∷ more) ∷ later) =
    if goes row next then (row ∷ next ∷ more) ∷ later else (row ∷ []) ∷ (next ∷ more) ∷ later

-- rows, cut before each that does not go on from the one before it
abbrev pub cut : (Row → Row → Bool) → List Row → List (List Row)
cut goes [] = []
cut goes (row ∷ rows) = onto_cut goes row (cut goes rows)

-- the value of an element, where its first row is its own
abbrev pub own_value : ℕ → Row → Option (List ℕ)
own_value depth row = if ends_at depth row then row.value else None

-- the element of a data node: its value, and the elements below it
abbrev pub node_part : Tables → ℕ → Option (List ℕ) → List Part → Node → Part
node_part tables number value below node = Child (record {
  name = node.name;
  bounds = option_map_or (value_bounds tables number) value [];
  attrs = [];
  parts = option_map_or text_parts value [] ++ below;
})

-- the element of the data node to which a step leads
abbrev pub step_parts : Tables → Option (List ℕ) → List Part → Option Step → List Part
step_parts tables value below None = []
step_parts tables value below (Some step) =
    option_map_or (λ node. node_part tables step.node value below node ∷ []) (slice_get tables.nodes step.node) []

-- the element of rows that stand together. Rows whose path ends above have none here
abbrev pub run_parts : Tables → (List Row → List Part) → ℕ → List Row → List Part
run_parts tables inner depth [] = []
run_parts tables inner depth (row ∷ rows) =
    step_parts tables (own_value depth row) (inner (row ∷ rows)) (slice_get row.path.steps depth)

-- the elements of rows at a depth, with so many levels of elements in them
abbrev pub parts_at : Tables → (levels : ℕ) → ℕ → List Row → List Part
parts_at tables zero depth rows = []
parts_at tables (suc levels) depth rows =
    flat_map (run_parts tables (parts_at tables levels (depth + 1)) depth) (cut (goes_on depth) rows)

-- the steps of the longest path
abbrev pub longest : List Row → ℕ
longest rows = fold (λ most row. max most (length row.path.steps)) 0 rows

-- the rows as elements
abbrev pub printed : Tables → List Row → List Part
printed tables rows = parts_at tables (longest rows) 0 rows
