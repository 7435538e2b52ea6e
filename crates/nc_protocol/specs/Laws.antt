-- What follows from the definitions.
use Rattle.std.specs.Prelude.{Some, ◌⊎◌, ◌≡◌, ◌↔◌, Bool, true, false, List, [], ◌∷◌, ◌++◌, Ok}
use Rattle.std.specs.List.{All, AllPairs, Contains, filter, list_any}
use Rattle.nc_message.specs.declared.tree.Elem.{Elem}
use Rattle.nc_message.specs.declared.tree.Part.TheVariants.{Child}
use Rattle.nc_names.specs.declared.path.Path.{Path}
use Rattle.nc_names.specs.declared.path.Place.{Place}
use Rattle.nc_names.specs.declared.path.Place.TheVariants.{Kept}
use Rattle.nc_names.specs.declared.path.Right.{Right}
use Rattle.nc_names.specs.declared.path.Right.TheVariants.{Create, Update, Delete}
use Rattle.nc_names.specs.declared.path.Row.{Row}
use Rattle.nc_names.specs.declared.path.Step.{Step}
use Rattle.nc_schema.specs.Blocks.{row_at}
use Rattle.nc_schema.specs.Configuration.{IsAtOrBelow, IsDataTree, IsConfiguration}
use Rattle.nc_schema.specs.Laws.{IsSystemOrderedPath}
use Rattle.nc_schema.specs.Order.{IsBefore}
use Rattle.nc_schema.specs.Tables.{Tables}
use Rattle.nc_protocol.specs.declared.access.Decision.{Decision}
use Rattle.nc_protocol.specs.declared.asked.Default3.{Default3}
use Rattle.nc_protocol.specs.declared.asked.ErrorOption.{ErrorOption}
use Rattle.nc_protocol.specs.declared.edit.Edit.{Edit}
use Rattle.nc_protocol.specs.declared.position.Position.{Position}
use Rattle.nc_protocol.specs.Applied.{applied}
use Rattle.nc_protocol.specs.Changes.{has_moved}
use Rattle.nc_protocol.specs.Edited.{edited, new_block, place_by}
use Rattle.nc_protocol.specs.Elements.{Reading}
use Rattle.nc_protocol.specs.Filter.{is_containment, is_content_match, is_of_node, level_of, selected}
use Rattle.nc_protocol.specs.Payload.{part_edits, elem_edits, edits_of, rows_of}
use Rattle.nc_protocol.specs.ProperEdit.{IsProperEdit, BringsCanonical, IsReadEdit}
use Rattle.nc_names.specs.Same.{is_at_or_below, is_same_value}
use Rattle.nc_schema.specs.Standing.{block_at, entries, excludes, has_row, is_by_user, lacks_above, placed, steps_before}
use Rattle.nc_protocol.specs.declared.asked.Default3.{Default3}
use Rattle.nc_schema.specs.Proper.{IsProperSchema}

-- an edit that fits the schema leaves a data tree, where it is made in one
abbrev pub EditKeepsTree : Type 0
EditKeepsTree =
    (tables : Tables) (rights : Path → Right → Decision) (rows left : List Row) (edit : Edit) →
    IsProperSchema tables → IsDataTree tables rows → IsProperEdit tables edit →
    edited tables rights rows edit ≡ Ok left → IsDataTree tables left

-- and a configuration, where it brings canonical values to one
abbrev pub EditKeepsConfiguration : Type 0
EditKeepsConfiguration =
    (tables : Tables) (rights : Path → Right → Decision) (rows left : List Row) (edit : Edit) →
    IsProperSchema tables → IsConfiguration tables rows → IsProperEdit tables edit → BringsCanonical tables edit →
    edited tables rights rows edit ≡ Ok left → IsConfiguration tables left

-- at and below its node an edit that fits the schema leaves the rows that its action gives; of the others it
-- leaves those that are there, but for the rows of other cases (RFC 7950 7.9)
pub record EditLeaves : Type 0 where
  pub node :
      (tables : Tables) (rights : Path → Right → Decision) (rows left : List Row) (edit : Edit) →
      IsProperEdit tables edit → edited tables rights rows edit ≡ Ok left →
      block_at left edit.path.steps ≡ new_block tables rows edit.path edit.action
  pub others :
      (tables : Tables) (rights : Path → Right → Decision) (rows left : List Row) (edit : Edit) (row : Row) →
      IsProperEdit tables edit → edited tables rights rows edit ≡ Ok left → ¬ IsAtOrBelow edit.path.steps row.path →
      Contains left row ↔
      (Contains rows row × All (λ added. excludes tables added.path.steps row.path.steps ≡ false)
      (new_block tables rows edit.path edit.action))

-- an edit that fits the schema, and is made
pub record IsMade (tables : Tables) (rights : Path → Right → Decision) (rows left : List Row) (edit : Edit) :
    Type 0 where
  pub fits : IsProperEdit tables edit
  pub is : edited tables rights rows edit ≡ Ok left

-- what it asked for: the right to create each row that is new, to update each whose value is another and each entry
-- at or below its node that has moved, and to delete each that is gone, unless a row of another case stands now (RFC
-- 8341 3.4.5; RFC 7950 7.9)
pub record EditAsks : Type 0 where
  pub created :
      (tables : Tables) (rights : Path → Right → Decision) (rows left : List Row) (edit : Edit) →
      IsMade tables rights rows left edit →
      (row : Row) → Contains left row → has_row rows row.path.steps ≡ false → (rights row.path Create).permit ≡ true
  pub changed :
      (tables : Tables) (rights : Path → Right → Decision) (rows left : List Row) (edit : Edit) →
      IsMade tables rights rows left edit →
      (row old : Row) → Contains left row → IsAtOrBelow edit.path.steps row.path →
      row_at rows row.path.steps ≡ Some old →
      is_same_value old.value row.value ≡ false → (rights row.path Update).permit ≡ true
  pub moved :
      (tables : Tables) (rights : Path → Right → Decision) (rows left : List Row) (edit : Edit) →
      IsMade tables rights rows left edit →
      (row old : Row) → Contains left row → IsAtOrBelow edit.path.steps row.path →
      row_at rows row.path.steps ≡ Some old →
      has_moved tables rows left row.path.steps ≡ true → (rights row.path Update).permit ≡ true
  pub dropped :
      (tables : Tables) (rights : Path → Right → Decision) (rows left : List Row) (edit : Edit) →
      IsMade tables rights rows left edit →
      (row : Row) → Contains rows row → has_row left row.path.steps ≡ false →
      ((rights row.path Delete).permit ≡ true)
      ⊎ ((other : Row) × Contains left other × (excludes tables other.path.steps row.path.steps ≡ true))

-- where an entry lands that the user orders: the entries of its list stand as its place says (RFC 7950 7.7.9, 7.8.6)
abbrev pub EntryLands : Type 0
EntryLands =
    (tables : Tables) (rights : Path → Right → Decision) (rows left : List Row) (edit : Edit) →
    IsProperSchema tables → IsDataTree tables rows → IsMade tables rights rows left edit →
    (above : List Step) (step : Step) → edit.path.steps ≡ above ++ step ∷ [] → is_by_user tables step.node ≡ true →
    has_row left edit.path.steps ≡ true →
    entries left above step.node ≡ placed (place_by edit.action edit.place) step.keys (entries rows above step.node)

-- several edits leave a data tree too, under every error-option
abbrev pub EditsKeepTree : Type 0
EditsKeepTree =
    (tables : Tables) (rights : Path → Right → Decision) (on_error : ErrorOption) (rows : List Row)
    (edits : List Edit) →
    IsProperSchema tables → IsDataTree tables rows → All (IsProperEdit tables) edits →
    IsDataTree tables (applied tables rights on_error rows edits).rows

-- the edits of a payload fit the schema, and bring canonical values
abbrev pub PayloadFits : Type 0
PayloadFits =
    (tables : Tables) (default_operation : Default3) (config : Elem) (edits : List Edit) →
    IsProperSchema tables → edits_of tables default_operation config ≡ Ok edits → All (IsReadEdit tables) edits

-- so a configuration stays one under them
abbrev pub PayloadKeepsConfiguration : Type 0
PayloadKeepsConfiguration =
    (tables : Tables) (rights : Path → Right → Decision) (on_error : ErrorOption) (default_operation : Default3)
    (config : Elem) (rows : List Row) (edits : List Edit) →
    IsProperSchema tables → IsConfiguration tables rows →
    edits_of tables default_operation config ≡ Ok edits →
    IsConfiguration tables (applied tables rights on_error rows edits).rows

-- the rows of an inline configuration are one
abbrev pub InlineIsConfiguration : Type 0
InlineIsConfiguration =
    (tables : Tables) (config : Elem) (rows : List Row) →
    IsProperSchema tables → rows_of tables config ≡ Ok rows → IsConfiguration tables rows

-- the edits of a child are those of the element
abbrev pub ChildIsElement : Type 0
ChildIsElement =
    (reading : Reading) (at : Position) (earlier : List Step) (e : Elem) →
    part_edits reading at earlier (Child e) ≡ elem_edits reading at earlier e

-- the test for a node at or below another is what it says
abbrev pub BelowIsBelow : Type 0
BelowIsBelow = (steps : List Step) (path : Path) → (is_at_or_below steps path ≡ true) ↔ IsAtOrBelow steps path

-- where the system orders each node on a path, rows are placed in document order
abbrev pub PlacesAreInOrder : Type 0
PlacesAreInOrder =
    (tables : Tables) (rows : List Row) (place : Place) (path other : Path) → IsSystemOrderedPath tables path →
    (steps_before tables rows place [] path.steps other.steps ≡ true) ↔ IsBefore tables path other

-- each row of a data tree is before all later ones, and none of these before it, in document order, which is
-- the user's where the user orders entries
abbrev pub RowsStandInOrder : Type 0
RowsStandInOrder =
    (tables : Tables) (rows : List Row) → IsProperSchema tables → IsDataTree tables rows →
    AllPairs (λ row later.
    (steps_before tables rows Kept [] row.path.steps later.path.steps ≡ true) ×
    (steps_before tables rows Kept [] later.path.steps row.path.steps ≡ false)) rows

-- in a data tree no row lacks an entry or container above it, and no two rows are of two cases of a choice: what an
-- edit asks of a node (`lacks_above`, `excludes`) holds of the rows that stand (RFC 7950 7.5.1, 7.8.2, 7.9)
pub record RowsStandWhole : Type 0 where
  pub above :
      (tables : Tables) (rows : List Row) → IsDataTree tables rows →
      All (λ row. lacks_above tables rows row.path.steps ≡ false) rows
  pub cases :
      (tables : Tables) (rows : List Row) → IsDataTree tables rows →
      (row other : Row) → Contains rows row → Contains rows other →
      excludes tables row.path.steps other.path.steps ≡ false

-- what a filter keeps of a data tree is a data tree: keys stand with their entries, and entries with what is in them
abbrev pub SelectedIsDataTree : Type 0
SelectedIsDataTree =
    (tables : Tables) (elem : Elem) (rows : List Row) → IsProperSchema tables → IsDataTree tables rows →
    IsDataTree tables (selected tables elem rows)

-- the rows that a filter keeps are rows of the configuration, in their order
abbrev pub SelectedStandsInRows : Type 0
SelectedStandsInRows =
    (tables : Tables) (elem : Elem) (rows : List Row) → (keeps : Row → Bool) ×
    (selected tables elem rows ≡ filter keeps rows)

-- a filter without an element selects nothing (RFC 6241 6.4.2)
abbrev pub EmptyFilterSelectsNothing : Type 0
EmptyFilterSelectsNothing =
    (tables : Tables) (elem : Elem) (rows : List Row) → level_of elem ≡ [] → selected tables elem rows ≡ []

-- a selection node at the top, with no content match beside it, selects all rows at and below the nodes of its name
-- (RFC 6241 6.2.4)
abbrev pub SelectionNodeSelectsSubtree : Type 0
SelectionNodeSelectsSubtree =
    (tables : Tables) (elem one : Elem) (rows : List Row) (row : Row) (step : Step) (rest : List Step) →
    Contains (level_of elem) one → list_any is_content_match (level_of elem) ≡ false →
    is_content_match one ≡ false → is_containment one ≡ false → is_of_node tables one step ≡ true →
    Contains rows row → row.path.steps ≡ step ∷ rest → Contains (selected tables elem rows) row
