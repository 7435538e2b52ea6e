-- What follows from how rows are printed, in the words of what reads a payload.
use Rattle.std.specs.Prelude.{◌≡◌, ◌≢◌, ◌≤◌, ℕ, Bool, false, List, [], ◌∷◌, ◌++◌, ◌+◌, zero, suc, fold, take, Option, Some, None, Ok, length, slice_get}
use Rattle.std.specs.List.{All, AllPairs, flat_map, list_any, zip}
use Rattle.std.specs.Option.{option_map_or}
use Rattle.nc_names.specs.declared.path.Place.TheVariants.{Kept}
use Rattle.nc_names.specs.declared.path.Row.{Row}
use Rattle.nc_names.specs.declared.path.Step.{Step}
use Rattle.nc_message.specs.declared.tree.Elem.{Elem}
use Rattle.nc_message.specs.declared.tree.Part.{Part}
use Rattle.nc_schema.specs.Configuration.{HasValueThat, IsConfiguration, IsDataTree}
use Rattle.nc_schema.specs.Proper.{IsProperSchema}
use Rattle.nc_schema.specs.Tables.{Tables}
use Rattle.nc_schema.specs.Values.{IsCanonical}
use Rattle.nc_schema.specs.declared.node.Kind.TheVariants.{Container, Leaf, LeafList, List as ListKind}
use Rattle.nc_schema.specs.declared.node.Node.{Node}
use Rattle.nc_protocol.specs.declared.edit.Action.TheVariants.{Merge}
use Rattle.nc_protocol.specs.declared.edit.Edit.{Edit}
use Rattle.nc_protocol.specs.declared.position.Position.{Position}
use Rattle.nc_protocol.specs.declared.position.Under.TheVariants.{Inline}
use Rattle.nc_protocol.specs.Content.{text_parts}
use Rattle.nc_protocol.specs.Edited.{left_by}
use Rattle.nc_protocol.specs.Elements.{Reading, Named, has_text, key_values, named_part, value_in}
use Rattle.nc_protocol.specs.Faults.{clashes}
use Rattle.nc_protocol.specs.ModuleNames.{value_bounds}
use Rattle.nc_protocol.specs.Payload.{config_edits, if_read, list_edits, part_edits, reading_of, rows_of}
use Rattle.nc_protocol.specs.Printed.{cut, goes_on, longest, node_part, own_value, parts_at, printed, step_parts}

-- the element that is printed for a data node
abbrev pub printed_elem : Tables → ℕ → Option (List ℕ) → List Part → Node → Elem
printed_elem tables number value below node = record {
  name = node.name;
  bounds = option_map_or (value_bounds tables number) value [];
  attrs = [];
  parts = option_map_or text_parts value [] ++ below;
}

-- it is read as that data node
abbrev pub PrintedIsNamed : Type 0
PrintedIsNamed =
    (reading : Reading) (number : ℕ) (node : Node) (value : Option (List ℕ)) (below : List Part) →
    IsProperSchema reading.tables → slice_get reading.tables.nodes number ≡ Some node →
    named_part reading node.parent (node_part reading.tables number value below node)
    ≡ Some (record { number = number; node = node; elem = printed_elem reading.tables number value below node })

-- its text is read as it is, under the bindings of the module names in it
abbrev pub PrintedValueIsRead : Type 0
PrintedValueIsRead =
    (reading : Reading) (number : ℕ) (node : Node) (text : List ℕ) →
    value_in reading
    (record { number = number; node = node; elem = printed_elem reading.tables number (Some text) [] node })
    ≡ reading.value number text (value_bounds reading.tables number text)

-- where an inline configuration is read, below a data node or at the top
abbrev pub inline_at : List Step → Option ℕ → Position
inline_at above parent = record { above = above; parent = parent; under = Inline }

-- the merge of a value, or of none, at a path
abbrev pub merge_at : List Step → Step → Option (List ℕ) → Edit
merge_at above step value =
    record { path = record { steps = above ++ step ∷ [] }; action = Merge value; place = Kept }

-- no element before excludes the node
abbrev pub StandsFree : Tables → List Step → Node → Step → Type 0
StandsFree tables earlier node step = list_any (clashes tables Inline node step) earlier ≡ false

-- a leaf is read back as its row: one merge of its value at its path
abbrev pub LeafIsReadBack : Type 0
LeafIsReadBack =
    (reading : Reading) (above earlier : List Step) (number : ℕ) (node : Node) (text : List ℕ) →
    let step : Step = record { node = number; keys = [] } in
    IsProperSchema reading.tables → slice_get reading.tables.nodes number ≡ Some node → node.kind ≡ Leaf →
    reading.value number text (value_bounds reading.tables number text) ≡ Some text →
    StandsFree reading.tables earlier node step →
    part_edits reading (inline_at above node.parent) earlier (node_part reading.tables number (Some text) [] node)
    ≡ Ok (merge_at above step (Some text) ∷ [])

-- so is a leaf-list entry, whose path has its value
abbrev pub LeafListIsReadBack : Type 0
LeafListIsReadBack =
    (reading : Reading) (above earlier : List Step) (number : ℕ) (node : Node) (text : List ℕ) →
    let step : Step = record { node = number; keys = text ∷ [] } in
    IsProperSchema reading.tables → slice_get reading.tables.nodes number ≡ Some node → node.kind ≡ LeafList →
    reading.value number text (value_bounds reading.tables number text) ≡ Some text →
    StandsFree reading.tables earlier node step →
    part_edits reading (inline_at above node.parent) earlier (node_part reading.tables number (Some text) [] node)
    ≡ Ok (merge_at above step (Some text) ∷ [])

-- a container is read back as a merge at its path, and what is read back of the elements in it
abbrev pub ContainerIsReadBack : Type 0
ContainerIsReadBack =
    (reading : Reading) (above earlier : List Step) (number : ℕ) (node : Node) (presence : Bool) (below : List Part) →
    let step : Step = record { node = number; keys = [] } in
    IsProperSchema reading.tables → slice_get reading.tables.nodes number ≡ Some node → node.kind ≡ Container presence →
    has_text below ≡ false →
    StandsFree reading.tables earlier node step →
    part_edits reading (inline_at above node.parent) earlier (node_part reading.tables number None below node)
    ≡ if_read (λ edits. merge_at above step None ∷ edits)
    (list_edits reading (inline_at (above ++ step ∷ []) (Some number)) [] below)

-- what is printed is elements alone, without text between them
abbrev pub PrintedHoldsNoText : Type 0
PrintedHoldsNoText =
    (tables : Tables) (levels depth : ℕ) (rows : List Row) → has_text (parts_at tables levels depth rows) ≡ false

-- a row has no elements below the node where its path ends
abbrev pub NothingBelowItsEnd : Type 0
NothingBelowItsEnd =
    (tables : Tables) (levels depth : ℕ) (row : Row) → length row.path.steps ≤ depth →
    parts_at tables levels depth (row ∷ []) ≡ []

-- a list entry is read back as a merge at its path, with its keys in it, and what is read back of the elements in it
abbrev pub ListEntryIsReadBack : Type 0
ListEntryIsReadBack =
    (reading : Reading) (above earlier : List Step) (number : ℕ) (node : Node) (values : List (List ℕ))
    (below : List Part) (edits : List Edit) →
    let step : Step = record { node = number; keys = values } in
    let it : Named = record {
      number = number;
      node = node;
      elem = printed_elem reading.tables number None below node;
    } in
    IsProperSchema reading.tables → slice_get reading.tables.nodes number ≡ Some node → node.kind ≡ ListKind →
    has_text below ≡ false → key_values reading it node.keys ≡ Some values →
    list_edits reading (inline_at (above ++ step ∷ []) (Some number)) [] below ≡ Ok edits →
    StandsFree reading.tables earlier node step →
    part_edits reading (inline_at above node.parent) earlier (node_part reading.tables number None below node)
    ≡ Ok (merge_at above step None ∷ edits)

-- a key of an entry is a leaf in its list whose value is read back (RFC 7950 7.8.2)
pub record IsKeyReadBack (reading : Reading) (number key : ℕ) (value : List ℕ) : Type 0 where
  pub node : Node
  pub at : slice_get reading.tables.nodes key ≡ Some node
  pub parent : node.parent ≡ Some number
  pub read : reading.value key value (value_bounds reading.tables key value) ≡ Some value

-- the elements of an entry's keys
abbrev pub key_parts : Tables → List ℕ → List (List ℕ) → List Part
key_parts tables keys values =
    flat_map (λ pair. step_parts tables (Some pair.1) [] (Some (record { node = pair.0; keys = [] }))) (zip keys values)

-- where they stand first in an entry, its keys are read as they are
abbrev pub PrintedKeysAreRead : Type 0
PrintedKeysAreRead =
    (reading : Reading) (it : Named) (values : List (List ℕ)) (more : List Part) →
    IsProperSchema reading.tables → AllPairs (λ key later. key ≢ later) it.node.keys → length values
    ≡ length it.node.keys →
    ((place key : ℕ) (value : List ℕ) → slice_get it.node.keys place ≡ Some key → slice_get values place ≡ Some value →
    IsKeyReadBack reading it.number key value) →
    it.elem.parts ≡ key_parts reading.tables it.node.keys values ++ more →
    key_values reading it it.node.keys ≡ Some values

-- ---- a whole configuration
-- a text is read as itself at a data node: it is the canonical text of the value that it stands for where the names of
-- the modules in it are bound to their namespaces (RFC 7950 9.1)
abbrev pub IsReadAsItself : Reading → ℕ → List ℕ → Type 0
IsReadAsItself reading number text = reading.value number text (value_bounds reading.tables number text) ≡ Some text

-- so is the value of each row
abbrev pub AreReadAsThemselves : Reading → List Row → Type 0
AreReadAsThemselves reading rows = All (HasValueThat (IsReadAsItself reading) reading.tables) rows

-- the canonical text of a value is so read: by the types of the schema, whichever text the value was given as
abbrev pub CanonicalIsReadAsItself : Type 0
CanonicalIsReadAsItself =
    (tables : Tables) (number : ℕ) (text : List ℕ) →
    IsProperSchema tables → IsCanonical tables number text → IsReadAsItself (reading_of tables) number text

-- the merge of a node, and those of what stands in it
abbrev pub step_merges : List Step → Option (List ℕ) → List Edit → Option Step → List Edit
step_merges above value below None = []
step_merges above value below (Some step) = merge_at above step value ∷ below

-- the merges of rows that stand in one element
abbrev pub run_merges : (List Row → List Edit) → ℕ → List Row → List Edit
run_merges inner depth [] = []
run_merges inner depth (row ∷ rows) =
    step_merges (take depth row.path.steps) (own_value depth row) (inner (row ∷ rows)) (slice_get row.path.steps depth)

-- the merges of rows at a depth, with so many levels of elements in them
abbrev pub merges_at : (levels : ℕ) → ℕ → List Row → List Edit
merges_at zero depth rows = []
merges_at (suc levels) depth rows =
    flat_map (run_merges (merges_at levels (depth + 1)) depth) (cut (goes_on depth) rows)

-- the merges of a configuration, in document order: one of each row's value at its path, and one of no value for each
-- container without presence that has a row below it
abbrev pub merges_of : List Row → List Edit
merges_of rows = merges_at (longest rows) 0 rows

-- what is printed of a data tree is read as its merges, without a fault
abbrev pub PrintedIsMerges : Type 0
PrintedIsMerges =
    (reading : Reading) (rows : List Row) (config : Elem) →
    IsProperSchema reading.tables → IsDataTree reading.tables rows → AreReadAsThemselves reading rows →
    config.parts ≡ printed reading.tables rows → config_edits reading Inline config ≡ Ok (merges_of rows)

-- the merges of a data tree, made one after another where nothing is, leave its rows: each in its place, entries that
-- the user orders in their order (RFC 7950 7.7.7)
abbrev pub MergesLeaveRows : Type 0
MergesLeaveRows =
    (tables : Tables) (rows : List Row) → IsProperSchema tables → IsDataTree tables rows →
    fold (left_by tables) [] (merges_of rows) ≡ rows

-- reading what is printed of a configuration, as an inline configuration (RFC 6241 7.3), gives its rows
abbrev pub PrintedRowsAreReadBack : Type 0
PrintedRowsAreReadBack =
    (tables : Tables) (rows : List Row) (config : Elem) →
    IsProperSchema tables → IsConfiguration tables rows → config.parts ≡ printed tables rows →
    rows_of tables config ≡ Ok rows
