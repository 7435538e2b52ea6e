-- A list of rows read as the tree that it is: its places, and what stands in each (RFC 7950 7.5 to 7.9).
use Rattle.std.specs.Prelude.{◌==◌, ◌&&◌, ◌||◌, ◌+◌, ◌++◌, ℕ, Bool, true, false, not, if◌then◌else◌}
use Rattle.std.specs.Prelude.{length, List, [], ◌∷◌, map}
use Rattle.std.specs.Prelude.{Option, Some, None, slice_get, option_and_then, option_map, option_to_list}
use Rattle.std.specs.List.{filter, find, flat_map, last_or, list_all, list_any}
use Rattle.std.specs.Option.{option_map_or}
use Rattle.nc_names.specs.Same.{is_same_step}
use Rattle.nc_names.specs.declared.path.Row.{Row}
use Rattle.nc_names.specs.declared.path.Step.{Step}
use Rattle.nc_schema.specs.Children.{is_same_number}
use Rattle.nc_schema.specs.Kinds.{stands_for_itself}
use Rattle.nc_schema.specs.Standing.{cases_of}
use Rattle.nc_schema.specs.Tables.{Tables}
use Rattle.nc_schema.specs.declared.node.Case.{Case}
use Rattle.nc_schema.specs.declared.node.Kind.{Kind}
use Rattle.nc_schema.specs.declared.node.Kind.TheVariants.{Container, Leaf, LeafList, List as ListKind}
use Rattle.nc_schema.specs.declared.node.Node.{Node}

-- one node directly in a place, with the rows at and below it. `step` is None where the rows are those
-- of the place itself
pub record Part : Type 0 where
  pub step : Option Step
  pub rows : List Row

-- the next steps of two rows are one, or neither has one
abbrev pub is_same_next : Option Step → Option Step → Bool
is_same_next None None = true
is_same_next (Some step) (Some other) = is_same_step step other
is_same_next step other = false

-- one row more in front: in the first part where that has the same step, else in one of its own
abbrev pub onto_first : Option Step → Row → List Part → List Part
onto_first step row [] = record { step = step; rows = row ∷ [] } ∷ []
onto_first step row (part ∷ more) =
    if is_same_next step part.step then record { step = part.step; rows = row ∷ part.rows } ∷ more
    else record { step = step; rows = row ∷ [] } ∷ part ∷ more

-- rows parted by the step that each has after so many: in a data tree the rows at and below one node
-- stand together
abbrev pub parts : ℕ → List Row → List Part
parts depth [] = []
parts depth (row ∷ rows) = onto_first (slice_get row.path.steps depth) row (parts depth rows)

-- A place: the top of a data tree, a container or a list entry.
pub record Place : Type 0 where
  -- the steps to it
  pub steps : List Step
  -- the rows at and below it
  pub rows : List Row
  -- what is mandatory in it has to stand (RFC 7950 7.6.5)
  pub required : Bool
  -- defaults are in use in it (RFC 7950 7.6.1)
  pub defaults : Bool

-- the top of the data tree with these rows: everything is required and every default in use there
abbrev pub top_place : List Row → Place
top_place rows = record { steps = []; rows = rows; required = true; defaults = true }

-- the data node of a place; none at the top
abbrev pub node_there : Place → Option ℕ
node_there place = option_map (λ step. step.node) (last_or None place.steps)

-- the nodes that stand directly in a place, with the rows at and below each
abbrev pub parts_there : Place → List Part
parts_there place = parts (length place.steps) place.rows

-- an instance of that data node
abbrev pub is_of : ℕ → Part → Bool
is_of number part = is_same_number (option_map (λ step. step.node) part.step) (Some number)

-- the instances of a data node in a place
abbrev pub parts_of : Place → ℕ → List Part
parts_of place number = filter (is_of number) (parts_there place)

-- the cases of the nodes that exist in a place (RFC 7950 7.9)
abbrev pub cases_there : Tables → Place → List Case
cases_there tables place =
    flat_map (λ part. option_map_or (λ step. cases_of tables step.node) part.step []) (parts_there place)

-- a node of the case exists there
abbrev pub is_chosen : Tables → Place → Case → Bool
is_chosen tables place case =
    list_any (λ other. other.choice == case.choice && other.case == case.case) (cases_there tables place)

-- a node of the choice exists there
abbrev pub is_made : Tables → Place → ℕ → Bool
is_made tables place choice = list_any (λ other. other.choice == choice) (cases_there tables place)

-- a node of the case exists there, or the case is the default of its choice, of which no node exists
-- there (RFC 7950 7.9.3)
abbrev pub is_chosen_or_default : Tables → Place → Case → Bool
is_chosen_or_default tables place case =
    let default = option_and_then (λ choice. choice.default_case) (slice_get tables.choices case.choice) in
    is_chosen tables place case || (is_same_number default (Some case.case) && not (is_made tables place case.choice))

-- an instance as a place. Nodes have to stand in a list entry and in a container with presence; in a
-- container without presence where they have to stand above it, and a node of each case of it exists.
-- Likewise with defaults (RFC 7950 7.6.1, 7.6.5)
abbrev pub place_of : Tables → Place → Node → Part → Place
place_of tables place node part = record {
  steps = place.steps ++ option_to_list part.step;
  rows = part.rows;
  required = stands_for_itself node.kind || (place.required && list_all (is_chosen tables place) node.cases);
  defaults = stands_for_itself node.kind || (place.defaults && list_all (is_chosen_or_default tables place) node.cases);
}

-- a container without presence exists where the place does in which it stands (RFC 7950 7.5.1)
abbrev pub or_empty : Bool → ℕ → List Part → List Part
or_empty presence number [] =
    if presence then [] else record { step = Some (record { node = number; keys = [] }); rows = [] } ∷ []
or_empty presence number (part ∷ more) = part ∷ more

-- the instances of a data node that are places
abbrev pub place_parts : Place → ℕ → Kind → List Part
place_parts place number (Container presence) = or_empty presence number (parts_of place number)
place_parts place number Leaf = []
place_parts place number LeafList = []
place_parts place number ListKind = parts_of place number

-- the places of a data node in a place, in document order
abbrev pub places_of : Tables → Place → ℕ → Node → List Place
places_of tables place number node = map (place_of tables place node) (place_parts place number node.kind)

-- the place to which a step leads
abbrev pub place_below : Tables → Place → Step → Option Place
place_below tables place step =
    let instance : Node → Option Part = λ node.
    find (λ part. is_same_next part.step (Some step)) (place_parts place step.node node.kind) in
    option_and_then (λ node. option_map (place_of tables place node) (instance node)) (slice_get tables.nodes step.node)

-- the place to which steps lead
abbrev pub place_at : Tables → Place → List Step → Option Place
place_at tables place [] = Some place
place_at tables place (step ∷ rest) =
    option_and_then (λ below. place_at tables below rest) (place_below tables place step)

-- the places below a place in document order, of those data nodes, of which the first has the number
-- `number`. A node comes before those that stand in it
abbrev pub places_among : Tables → Place → ℕ → List Node → List Place
places_among tables place number [] = []
places_among tables place number (node ∷ later) =
    let here = if is_same_number node.parent (node_there place) then places_of tables place number node else [] in
    flat_map (λ below. below ∷ places_among tables below (number + 1) later) here
    ++ places_among tables place (number + 1) later

-- a place and all below it, in document order
abbrev pub places_from : Tables → Place → List Place
places_from tables place = place ∷ places_among tables place 0 tables.nodes
