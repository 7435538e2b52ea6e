-- Edits that fit the schema: each leaves a data tree where it is made in one.
use Rattle.std.specs.Prelude.{◌≡◌, ◌||◌, ℕ, List, [], ◌∷◌, ◌++◌, Option, Some, IsTrue, slice_get}
use Rattle.std.specs.List.{All}
use Rattle.nc_names.specs.declared.path.Path.{Path}
use Rattle.nc_names.specs.declared.path.Row.{Row}
use Rattle.nc_names.specs.declared.path.Step.{Step}
use Rattle.nc_schema.specs.declared.node.Kind.TheVariants.{List as ListKind}
use Rattle.nc_schema.specs.declared.node.Node.{Node}
use Rattle.nc_schema.specs.Configuration.{IsSubtree, IsRowValue, HasValueThat}
use Rattle.nc_schema.specs.Paths.{IsPathOf}
use Rattle.nc_schema.specs.Tables.{Tables}
use Rattle.nc_schema.specs.Values.{IsCanonical}
use Rattle.nc_protocol.specs.declared.edit.Action.{Action}
use Rattle.nc_protocol.specs.declared.edit.Action.TheVariants.{Nothing, Merge, Create, Replace, Delete, Remove}
use Rattle.nc_protocol.specs.declared.edit.Edit.{Edit}
use Rattle.nc_schema.specs.Blocks.{at_node, rows_of_node}
use Rattle.nc_schema.specs.Kinds.{has_value, is_plain_container}
use Rattle.nc_schema.specs.Standing.{has_row}

-- the node is the key at that place of the list whose entry is above it
pub record IsKeyAt (tables : Tables) (path : Path) (entry : Step) (place : ℕ) : Type 0 where
  pub above : List Step
  pub key : Step
  pub node : Node
  pub steps : path.steps ≡ above ++ entry ∷ key ∷ []
  pub node_is : slice_get tables.nodes entry.node ≡ Some node
  pub list : node.kind ≡ ListKind
  pub key_is : slice_get node.keys place ≡ Some key.node

-- the node is no key
abbrev pub IsNoKey : Tables → Path → Type 0
IsNoKey tables path = (entry : Step) (place : ℕ) → ¬ IsKeyAt tables path entry place

-- a value to merge: a leaf has one, a leaf-list entry that in its path, and a key that of its entry
-- (RFC 7950 7.8.2)
pub record IsMergeValue (tables : Tables) (path : Path) (value : Option (List ℕ)) : Type 0 where
  pub own : (above : List Step) (step : Step) (node : Node) → path.steps ≡ above ++ step ∷ [] →
      slice_get tables.nodes step.node ≡ Some node → IsTrue (has_value node.kind) → IsRowValue node.kind step value
  pub of_key : (entry : Step) (place : ℕ) → IsKeyAt tables path entry place → value ≡ slice_get entry.keys place

-- new rows of a node that is no key: a subtree, in which the node has its own row, unless it is a container without
-- presence, which has none
pub record IsNewSubtree (tables : Tables) (path : Path) (new : List Row) : Type 0 where
  pub no_key : IsNoKey tables path
  pub rows : IsSubtree tables path.steps new
  pub itself : IsTrue (has_row new path.steps || at_node tables path is_plain_container)

-- an action that fits its node: new rows are those of the node, and no key is created or taken away by
-- itself
abbrev pub IsProperAction : Tables → Path → Action → Type 0
IsProperAction tables path Nothing = Unit {0}
IsProperAction tables path (Merge value) = IsMergeValue tables path value
IsProperAction tables path (Create new) = IsNewSubtree tables path new
IsProperAction tables path (Replace new) = IsNewSubtree tables path new
IsProperAction tables path Delete = IsNoKey tables path
IsProperAction tables path Remove = IsNoKey tables path

-- an edit that fits the schema
pub record IsProperEdit (tables : Tables) (edit : Edit) : Type 0 where
  pub path : IsPathOf tables edit.path
  pub action : IsProperAction tables edit.path edit.action

-- the rows that an edit brings
abbrev pub rows_brought : Tables → Path → Action → List Row
rows_brought tables path (Merge value) = rows_of_node tables path value
rows_brought tables path (Create new) = new
rows_brought tables path (Replace new) = new
rows_brought tables path action = []

-- their values are such at their nodes
abbrev pub BringsThat : (ℕ → List ℕ → Type 0) → Tables → Edit → Type 0
BringsThat IsSuch tables edit = All (HasValueThat IsSuch tables) (rows_brought tables edit.path edit.action)

-- their values are canonical texts (RFC 7950 9.1)
abbrev pub BringsCanonical : Tables → Edit → Type 0
BringsCanonical tables edit = BringsThat (IsCanonical tables) tables edit

-- an edit as a payload gives it: it fits the schema, and its values were read
pub record IsReadEdit (tables : Tables) (edit : Edit) : Type 0 where
  pub fits : IsProperEdit tables edit
  pub brings : BringsCanonical tables edit
