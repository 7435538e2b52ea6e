-- The edits of an edit-config's payload, the rows of an inline configuration, and the paths that either names (RFC
-- 6241 7.2, 7.3). Faults are found in document order, an element's own before those of its children.
use Rattle.std.specs.Prelude.{ℕ, Bool, false, if◌then◌else◌, List, [], ◌∷◌, ◌++◌, ◌||◌, fold, Option, Some, None, Result, Ok, Err, option_and_then}
use Rattle.std.specs.List.{flat_map, list_any}
use Rattle.std.specs.Option.{option_map_or}
use Rattle.nc_names.specs.Same.{is_at_or_below, is_same_path}
use Rattle.nc_names.specs.declared.cause.CauseKind.TheVariants.{BadElement}
use Rattle.nc_names.specs.declared.name.Bound.{Bound}
use Rattle.nc_names.specs.declared.path.Path.{Path}
use Rattle.nc_names.specs.declared.path.Place.{Place}
use Rattle.nc_names.specs.declared.path.Place.TheVariants.{Kept}
use Rattle.nc_names.specs.declared.path.Row.{Row}
use Rattle.nc_names.specs.declared.path.Step.{Step}
use Rattle.nc_message.specs.declared.tree.Elem.{Elem}
use Rattle.nc_message.specs.declared.tree.Part.{Part, Child', Chars, Row_of-Part, end_of-Part, more_of-Part}
use Rattle.nc_message.specs.declared.tree.Part.TheBlock.{Row_of-Elem, end_of-Elem, more_of-Elem, items-the_row-Part}
use Rattle.nc_schema.specs.InstancePaths.{entry_keys, key_nodes}
use Rattle.nc_schema.specs.Kinds.{has_value}
use Rattle.nc_schema.specs.Tables.{Tables}
use Rattle.nc_schema.specs.Values.{canonical, canonical_keys}
use Rattle.nc_protocol.specs.Attributes.{cause_in, operation_of, place_of}
use Rattle.nc_protocol.specs.Edited.{left_by}
use Rattle.nc_protocol.specs.Elements.{Reading, Named, has_text, named, keys_read, value_in, steps_to, with_step}
use Rattle.nc_protocol.specs.Faults.{inside, unknown_or}
use Rattle.nc_protocol.specs.declared.asked.Asked.{Asked}
use Rattle.nc_protocol.specs.declared.asked.Asked.TheVariants.{EditConfig, CopyConfig, Validate}
use Rattle.nc_protocol.specs.declared.asked.Default3.{Default3}
use Rattle.nc_protocol.specs.declared.asked.Default3.TheVariants.{Merge as MergeByDefault, Replace as ReplaceByDefault, Nothing as NothingByDefault}
use Rattle.nc_protocol.specs.declared.datastore.Origin.TheVariants.{Inline as InlineConfig}
use Rattle.nc_protocol.specs.declared.edit.Action.{Action}
use Rattle.nc_protocol.specs.declared.edit.Action.TheVariants.{Nothing as Look, Merge as Set, Create as Add, Replace as Put, Delete as Drop, Remove as Clear}
use Rattle.nc_protocol.specs.declared.edit.Edit.{Edit}
use Rattle.nc_protocol.specs.declared.position.EditOperation.{EditOperation}
use Rattle.nc_protocol.specs.declared.position.EditOperation.TheVariants.{Merge, Replace, Create, Delete, Remove, Nothing}
use Rattle.nc_protocol.specs.declared.position.Position.{Position}
use Rattle.nc_protocol.specs.declared.position.Under.{Under}
use Rattle.nc_protocol.specs.declared.position.Under.TheVariants.{Edited, Rows, Inline}
use Rattle.nc_protocol.specs.declared.request.Cause.{Cause}

-- the merge of an element's node
abbrev pub merge_of : Reading → Position → Named → Edit
merge_of reading at named = record {
  path = record { steps = steps_to reading at named };
  action = Set (if has_value named.node.kind then value_in reading named else None);
  place = Kept;
}

-- the rows of a subtree: what its elements leave that are merged, one after another, into nothing
abbrev pub rows_merged : Tables → List Edit → List Row
rows_merged tables merges = fold (left_by tables) [] merges

-- an element's action by its operation, with the merges of it and of what is in it
abbrev pub action_by : Tables → EditOperation → Action → List Edit → Action
action_by tables Merge merge merges = merge
action_by tables Nothing merge merges = Look
action_by tables Create merge merges = Add (rows_merged tables merges)
action_by tables Replace merge merges = Put (rows_merged tables merges)
action_by tables Delete merge merges = Drop
action_by tables Remove merge merges = Clear

-- the edits below stay where each element gives its own; below others there are none, or they are rows
abbrev pub stays_by : EditOperation → List Edit → List Edit
stays_by Merge below = below
stays_by Nothing below = below
stays_by operation below = []

-- the edits of an element, with those of what is in it: among rows they are merges
abbrev pub made : Tables → Under → EditOperation → Edit → Place → List Edit → List Edit
made tables (Edited above) operation merge place below =
    record { path = merge.path; action = action_by tables operation merge.action (merge ∷ below); place = place } ∷
    stays_by operation below
made tables (Rows above) operation merge place below = merge ∷ below
made tables Inline operation merge place below = merge ∷ below
made tables under operation merge place below = []

-- the edits of an element at its data node, with those below it
abbrev pub made_of : Reading → Position → Named → List Edit → List Edit
made_of reading at named below =
    made reading.tables at.under (operation_of at.under named.elem.attrs) (merge_of reading at named)
    (place_of reading named) below

-- edits, and then more, unless there is a fault
abbrev pub with_more : Result (List Edit) Cause → Result (List Edit) Cause → Result (List Edit) Cause
with_more (Err cause) more = Err cause
with_more (Ok edits) (Err cause) = Err cause
with_more (Ok edits) (Ok more) = Ok (edits ++ more)

-- what is made of a reading, or why there is none
abbrev pub if_read : {A B : Type 0} → (A → B) → Result A Cause → Result B Cause
if_read make (Ok a) = Ok (make a)
if_read make (Err cause) = Err cause

-- the edits, unless there is a fault
abbrev pub unless_fault : Option Cause → Result (List Edit) Cause → Result (List Edit) Cause
unless_fault None edits = edits
unless_fault (Some cause) edits = Err cause

-- the edits of an element at a data node
abbrev pub node_edits : Reading → Position → Option Named → (Position → Result (List Edit) Cause) →
    Result (List Edit) Cause
node_edits reading at None children = Ok []
node_edits reading at (Some named) children = if_read (made_of reading at named) (children (inside reading at named))

-- the first fault of an element, or its edits, where those of its children are given
abbrev pub element_edits : Reading → Position → List Step → Elem → (Position → Result (List Edit) Cause) →
    Result (List Edit) Cause
element_edits reading at earlier elem children =
    unless_fault (unknown_or reading at earlier elem (named reading at.parent elem))
    (node_edits reading at (named reading at.parent elem) children)

abbrev mutual
  -- the edits of a part of an element, with the steps of the elements before it
  pub part_edits : Reading → Position → List Step → Part → Result (List Edit) Cause
  part_edits reading at earlier (Chars text) = Ok []
  part_edits reading at earlier (Child' _ child) = child_edits reading at earlier child

  -- those of a child element
  pub child_edits : Reading → Position → List Step → {n : _} → Row_of-Elem n → Result (List Edit) Cause
  child_edits reading at earlier end_of-Elem = Ok []
  child_edits reading at earlier (more_of-Elem name bounds attrs shape parts none) =
      element_edits reading at earlier
      (record { name = name; bounds = bounds; attrs = attrs; parts = items-the_row-Part _ parts })
      (λ within. parts_edits reading within [] parts)

  -- those of some parts, one after another
  pub parts_edits : Reading → Position → List Step → {n : _} → Row_of-Part n → Result (List Edit) Cause
  parts_edits reading at earlier end_of-Part = Ok []
  parts_edits reading at earlier (more_of-Part part more) =
      with_more (part_edits reading at earlier part) (parts_edits reading at (with_step reading at earlier part) more)

-- the edits of the parts of an element, from the first on
abbrev pub list_edits : Reading → Position → List Step → List Part → Result (List Edit) Cause
list_edits reading at earlier [] = Ok []
list_edits reading at earlier (part ∷ more) =
    with_more (part_edits reading at earlier part) (list_edits reading at (with_step reading at earlier part) more)

-- the edits of an element where it stands
abbrev pub elem_edits : Reading → Position → List Step → Elem → Result (List Edit) Cause
elem_edits reading at earlier elem =
    element_edits reading at earlier elem (λ within. list_edits reading within [] elem.parts)

-- a whole `config`, whose own attributes say nothing
abbrev pub config_edits : Reading → Under → Elem → Result (List Edit) Cause
config_edits reading under config =
    if has_text config.parts then Err (cause_in BadElement [] (config.name.name ∷ []))
    else list_edits reading (record { above = []; parent = None; under = under }) [] config.parts

-- the operation that a `default-operation` means (RFC 6241 7.2)
abbrev pub by_default : Default3 → EditOperation
by_default MergeByDefault = Merge
by_default ReplaceByDefault = Replace
by_default NothingByDefault = Nothing

-- the edits of a payload, or its first fault
abbrev pub edits_read : Reading → Default3 → Elem → Result (List Edit) Cause
edits_read reading default_operation config = config_edits reading (Edited (by_default default_operation)) config

-- the rows of an inline configuration, or its first fault
abbrev pub rows_read : Reading → Elem → Result (List Row) Cause
rows_read reading config = if_read (rows_merged reading.tables) (config_edits reading Inline config)

-- ---- the paths that a payload names
-- the place of an element, where its node and keys have a reading, and those of what is in it
abbrev pub places_at : List Step → Option (List (List ℕ)) → Named → (List Step → List (List Step)) → List (List Step)
places_at above None named children = []
places_at above (Some keys) named children =
    let steps = above ++ record { node = named.number; keys = keys } ∷ [] in steps ∷ children steps

-- the places of an element and of what is in it; none where it names no data node
abbrev pub element_places : Reading → List Step → Option Named → (List Step → Option ℕ → List (List Step)) →
    List (List Step)
element_places reading above None children = []
element_places reading above (Some named) children =
    places_at above (keys_read reading named.node.kind named) named (λ steps. children steps (Some named.number))

abbrev mutual
  -- the places of the elements in a part of an element
  pub part_places : Reading → List Step → Option ℕ → Part → List (List Step)
  part_places reading above parent (Chars text) = []
  part_places reading above parent (Child' _ child) = child_places reading above parent child

  -- those of a child element, with those of what is in it
  pub child_places : Reading → List Step → Option ℕ → {n : _} → Row_of-Elem n → List (List Step)
  child_places reading above parent end_of-Elem = []
  child_places reading above parent (more_of-Elem name bounds attrs shape parts none) =
      element_places reading above
      (named reading parent
      (record { name = name; bounds = bounds; attrs = attrs; parts = items-the_row-Part _ parts }))
      (λ steps number. parts_places reading steps number parts)

  -- those of some parts, one after another
  pub parts_places : Reading → List Step → Option ℕ → {n : _} → Row_of-Part n → List (List Step)
  parts_places reading above parent end_of-Part = []
  parts_places reading above parent (more_of-Part part more) =
      part_places reading above parent part ++ parts_places reading above parent more

-- an element of the payload stands at the path or below it
abbrev pub stands_in : Reading → Elem → Path → Bool
stands_in reading config path =
    list_any (λ steps. is_at_or_below path.steps (record { steps = steps }))
    (flat_map (part_places reading [] None) config.parts)

-- the payload's fault is about the path
abbrev pub is_at_fault : {A : Type 0} → Result A Cause → Path → Bool
is_at_fault (Ok it) path = false
is_at_fault (Err cause) path = option_map_or (λ at. is_same_path at.steps path.steps) cause.path false

-- a payload names the paths of its elements, with those above them, and that of its fault
abbrev pub names_path_read : Reading → Asked → Path → Bool
names_path_read reading (EditConfig target default_operation test on_error config) path =
    stands_in reading config path || is_at_fault (edits_read reading default_operation config) path
names_path_read reading (CopyConfig target (InlineConfig config)) path =
    stands_in reading config path || is_at_fault (rows_read reading config) path
names_path_read reading (Validate (InlineConfig config)) path =
    stands_in reading config path || is_at_fault (rows_read reading config) path
names_path_read reading asked path = false

-- ---- by the types of the schema's data nodes, and by the grammar of instance identifiers
-- the canonical keys of the entry of a list that predicates name
abbrev pub canonical_entry : Tables → ℕ → List ℕ → List Bound → Option (List (List ℕ))
canonical_entry tables number text bounds =
    option_and_then (canonical_keys (λ key value. canonical tables key value bounds) (key_nodes tables number))
    (entry_keys tables number text bounds)

-- how texts are read by the types of a schema's data nodes
abbrev pub reading_of : Tables → Reading
reading_of tables = record { tables = tables; value = canonical tables; keys = canonical_entry tables }

-- the edits of a payload, or its first fault
abbrev pub edits_of : Tables → Default3 → Elem → Result (List Edit) Cause
edits_of tables default_operation config = edits_read (reading_of tables) default_operation config

-- the rows of an inline configuration, or its first fault
abbrev pub rows_of : Tables → Elem → Result (List Row) Cause
rows_of tables config = rows_read (reading_of tables) config

-- the request's payload names the path
abbrev pub names_path : Tables → Asked → Path → Bool
names_path tables asked path = names_path_read (reading_of tables) asked path
