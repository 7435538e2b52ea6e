-- Edits below a new node, made in its rows alone: what they ask, make and bring.
use Rattle.std.specs.Prelude.{◌≡◌, ◌&&◌, ◌||◌, ℕ, Bool, true, false, not, if◌then◌else◌}
use Rattle.std.specs.Prelude.{List, [], ◌∷◌, ◌++◌, Option, None, take, drop}
use Rattle.nc_names.specs.declared.cause.CauseKind.TheVariants.{Exists, Absent, MissingInstance}
use Rattle.nc_names.specs.declared.path.Path.{Path}
use Rattle.nc_names.specs.declared.path.Place.TheVariants.{Kept}
use Rattle.nc_names.specs.declared.path.Row.{Row}
use Rattle.nc_names.specs.declared.path.Step.{Step}
use Rattle.nc_schema.specs.Blocks.{at_node}
use Rattle.nc_schema.specs.Kinds.{is_plain_container}
use Rattle.nc_schema.specs.Standing.{cases_of, exists, is_by_user, lacks_above}
use Rattle.nc_schema.specs.Tables.{Tables}
use Rattle.nc_tree.specs.inner.Lacking.{lacks_from}
use Rattle.nc_protocol.specs.Applied.{Applied, is_empty, with_result}
use Rattle.nc_protocol.specs.Edited.{anchor_names, cause_at, cause_where, first_cause}
use Rattle.nc_protocol.specs.Edited.{lacks_anchor, left_by, unless_refused}
use Rattle.nc_protocol.specs.declared.edit.Action.{Action}
use Rattle.nc_protocol.specs.declared.edit.Action.TheVariants.{Nothing, Merge, Create, Replace, Delete, Remove}
use Rattle.nc_protocol.specs.declared.edit.Edit.{Edit}
use Rattle.nc_protocol.specs.declared.request.Cause.{Cause}
use Rattle.nc_edit.specs.inner.Denied.{has_case}

-- the step is to no entry that the user orders, and to a node of no case of a choice
pub record IsFree (tables : Tables) (step : Step) : Type 0 where
  pub system : is_by_user tables step.node ≡ false
  pub cases : cases_of tables step.node ≡ []

-- so it is seen of a step
abbrev pub is_free : Tables → Step → Bool
is_free tables step = not (is_by_user tables step.node) && not (has_case tables step.node)

-- so it is with all of these steps
abbrev pub AreFree : Tables → List Step → Type 0
AreFree tables [] = Unit {0}
AreFree tables (step ∷ steps) = IsFree tables step × AreFree tables steps

-- a row is at these steps or below them
abbrev pub IsUnder : List Step → Row → Type 0
IsUnder steps row = (rest : List Step) × (row.path.steps ≡ steps ++ rest)

-- so are all of these
abbrev pub AreUnder : List Step → List Row → Type 0
AreUnder steps [] = Unit {0}
AreUnder steps (row ∷ rows) = IsUnder steps row × AreUnder steps rows

-- the paths of rows are these steps
abbrev pub AreAt : List Step → List Row → Type 0
AreAt steps [] = Unit {0}
AreAt steps (row ∷ rows) = (row.path.steps ≡ steps) × AreAt steps rows

-- steps go on below others: the first of the further ones, and the rest
abbrev pub GoesBelow : List Step → List Step → Type 0
GoesBelow steps lower = (next : Step) × (more : List Step) × (lower ≡ steps ++ next ∷ more)

-- the rows that an action brings are at its path or below it
abbrev pub BringsUnder : Path → Action → Type 0
BringsUnder path Nothing = Unit {0}
BringsUnder path (Merge value) = Unit {0}
BringsUnder path (Create new) = AreUnder path.steps new
BringsUnder path (Replace new) = AreUnder path.steps new
BringsUnder path Delete = Unit {0}
BringsUnder path Remove = Unit {0}

-- edits are below a node, and bring rows at their paths or below these
abbrev pub AreBelow : List Step → List Edit → Type 0
AreBelow steps [] = Unit {0}
AreBelow steps (edit ∷ edits) =
    GoesBelow steps edit.path.steps × BringsUnder edit.path edit.action × AreBelow steps edits

-- an entry or a container with presence above a path does not stand, so many steps deep or deeper
abbrev pub lacks_at : Tables → List Row → ℕ → List Step → Bool
lacks_at tables rows from steps = lacks_from tables rows (take from steps) (drop from steps)

-- the node is there; a container without presence is where its parent is. What stands above so many steps is there
abbrev pub is_there_at : Tables → ℕ → List Row → Path → Bool
is_there_at tables from rows path =
    if at_node tables path is_plain_container then not (lacks_at tables rows from path.steps)
    else exists rows path.steps

-- the node is there though it is created, or is not though it has to be (RFC 6241 7.2)
abbrev pub missed_at : Tables → ℕ → List Row → Path → Action → Option Cause
missed_at tables from rows path Nothing =
    cause_where (not (is_there_at tables from rows path)) (cause_at Absent path [])
missed_at tables from rows path (Merge value) =
    cause_where (lacks_at tables rows from path.steps) (cause_at Absent path [])
missed_at tables from rows path (Create new) =
    first_cause (cause_where (exists rows path.steps) (cause_at Exists path [])
    ∷ cause_where (lacks_at tables rows from path.steps) (cause_at Absent path []) ∷ [])
missed_at tables from rows path (Replace new) =
    cause_where (lacks_at tables rows from path.steps) (cause_at Absent path [])
missed_at tables from rows path Delete = cause_where (not (exists rows path.steps)) (cause_at Absent path [])
missed_at tables from rows path Remove = None

-- why an edit is refused where every right is given
abbrev pub refusal_at : Tables → ℕ → List Row → Edit → Option Cause
refusal_at tables from rows edit =
    first_cause (missed_at tables from rows edit.path edit.action
    ∷ cause_where (lacks_anchor rows edit) (cause_at MissingInstance edit.path (anchor_names tables edit.path)) ∷ [])

-- the edit is made too, unless an edit before it was refused and the first refusal ends all
abbrev pub turn_at : Tables → ℕ → Bool → Applied → Edit → Applied
turn_at tables from goes_on so_far edit =
    if goes_on || is_empty so_far.causes
    then with_result so_far
    (unless_refused (refusal_at tables from so_far.rows edit) (left_by tables so_far.rows edit))
    else so_far

-- a merge
abbrev pub is_merge : Action → Bool
is_merge Nothing = false
is_merge (Merge value) = true
is_merge (Create new) = false
is_merge (Replace new) = false
is_merge Delete = false
is_merge Remove = false

-- an edit merges a node that does not exist, in its place by the schema alone, and is not refused
pub record IsNew (tables : Tables) (rows : List Row) (edit : Edit) : Type 0 where
  pub merges : is_merge edit.action ≡ true
  pub kept : edit.place ≡ Kept
  pub goes : GoesBelow [] edit.path.steps
  pub free : AreFree tables edit.path.steps
  pub new : exists rows edit.path.steps ≡ false
  pub none : lacks_above tables rows edit.path.steps ≡ false
