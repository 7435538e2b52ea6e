-- Rows that are gathered in any order: they are kept in the order of their marks, and one more goes to its place.
use Rattle.std.specs.Prelude.{◌≡◌, ◌⊎◌, ◌<◌, ◌≤◌, ◌||◌, ℕ, Bool, true, false, not, List, [], ◌∷◌, ◌++◌, map, fold}
use Rattle.std.specs.Prelude.{Option, Some, None}
use Rattle.std.specs.List.{All, filter}
use Rattle.std.specs.List.Sorted.{IsStrictlySortedBy}
use Rattle.std.specs.BTreeMap.{get}
use Rattle.std.specs.BTreeSet.{contains}
use Rattle.std.specs.Ordering.{is_lt, nat_cmp, ordering_then}
use Rattle.std.specs.declared.cmp.Ordering.{Ordering}
use Rattle.std.specs.declared.cmp.Ordering.TheVariants.{Less}
use Rattle.nc_names.specs.Same.{is_at_or_below, is_same_path}
use Rattle.nc_names.specs.declared.path.Path.{Path}
use Rattle.nc_names.specs.declared.path.Place.TheVariants.{Kept}
use Rattle.nc_names.specs.declared.path.Row.{Row}
use Rattle.nc_names.specs.declared.path.Step.{Step}
use Rattle.nc_schema.specs.Blocks.{at_node, rows_of_node}
use Rattle.nc_schema.specs.Kinds.{has_value}
use Rattle.nc_schema.specs.Standing.{cases_of, has_row, is_by_user}
use Rattle.nc_schema.specs.Tables.{Tables}
use Rattle.nc_schema.specs.declared.node.Case.{Case}
use Rattle.nc_protocol.specs.Edited.{left_by}
use Rattle.nc_protocol.specs.declared.edit.Action.TheVariants.{Merge}
use Rattle.nc_protocol.specs.declared.edit.Edit.{Edit}
use Rattle.nc_payload.specs.declared.gather.Gathered.{Gathered}
use Rattle.nc_payload.specs.declared.marks.Mark.{Mark}
use Rattle.nc_payload.specs.declared.marks.Turns.{Turns}
use Rattle.nc_payload.specs.inner.Marks.{in_marks, marks, turn_of}
use Rattle.nc_payload.specs.inner.Places.{order}

-- ---- what is known beforehand: the case of a choice
abbrev pub in_pairs : List Step × ℕ → List Step × ℕ → Ordering
in_pairs pair other = ordering_then (order pair.0 other.0) (nat_cmp pair.1 other.1)

-- the case that a choice has in the node of some steps, if the merges say one
abbrev pub case_of : Turns → List Step → ℕ → Option ℕ
case_of turns above choice = get in_pairs turns.cases (above, choice)

-- the cases of a node are those of their choices
abbrev pub AreChosen : Turns → List Step → List Case → Type 0
AreChosen turns above cases = All (λ case. case_of turns above case.choice ≡ Some case.case) cases

-- ---- rows in the order of their marks
abbrev pub row_marks : Tables → Turns → Row → List Mark
row_marks tables turns row = marks tables (turn_of turns) row.path.steps

-- a row, after its marks
abbrev pub with_marks : Tables → Turns → Row → List Mark × Row
with_marks tables turns row = (row_marks tables turns row, row)

-- the marks of a row come before those of another
abbrev pub goes_before : Tables → Turns → Row → Row → Bool
goes_before tables turns row other = is_lt (in_marks (row_marks tables turns row) (row_marks tables turns other))

-- a row in its place
abbrev pub put : Tables → Turns → List Row → Row → List Row
put tables turns rows row =
    filter (λ other. goes_before tables turns other row) rows ++ row ∷
    filter (λ other. not (goes_before tables turns other row)) rows

-- each row goes before the next
abbrev pub Climbs : Tables → Turns → List Mark → List Row → Type 0
Climbs tables turns last [] = Unit {0}
Climbs tables turns last (row ∷ rows) =
    (in_marks last (row_marks tables turns row) ≡ Less) × Climbs tables turns (row_marks tables turns row) rows

-- ---- rows so far
abbrev pub has_seen : Gathered → List Step → Bool
has_seen so_far steps = contains order so_far.seen steps

-- what is known of a step to a node that was merged: entries that the user orders have their rows, and their turns
-- were before
pub record IsKnown (tables : Tables) (turns : Turns) (so_far : Gathered) (rows : List Row)
    (above : List Step) (step : Step) : Type 0 where
  pub seen : has_seen so_far (above ++ step ∷ []) ≡ true
  pub stands : is_by_user tables step.node ≡ true →
      (has_row rows (above ++ step ∷ []) ≡ true) × (turn_of turns (above ++ step ∷ []) < so_far.next)
  pub chosen : AreChosen turns above (cases_of tables step.node)
  pub inner : at_node tables (record { steps = above }) has_value ≡ false

-- so it is with each further step, from the node of some steps down
abbrev pub AreKnown : Tables → Turns → Gathered → List Row → List Step → List Step → Type 0
AreKnown tables turns so_far rows above [] = Unit {0}
AreKnown tables turns so_far rows above (step ∷ rest) =
    IsKnown tables turns so_far rows above step × AreKnown tables turns so_far rows (above ++ step ∷ []) rest

-- a node is below the base, and its steps from there are known
pub record IsHeld (tables : Tables) (turns : Turns) (so_far : Gathered) (rows : List Row)
    (steps : List Step) : Type 0 where
  pub rest : List Step
  pub is : steps ≡ so_far.base ++ rest
  pub known : AreKnown tables turns so_far rows so_far.base rest

-- these are the rows so far
pub record Holds (tables : Tables) (turns : Turns) (so_far : Gathered) (rows : List Row) : Type 0 where
  pub entries : so_far.rows.entries ≡ map (with_marks tables turns) rows
  pub ordered : IsStrictlySortedBy in_marks (map (row_marks tables turns) rows)
  pub each : All (λ row. has_seen so_far row.path.steps ≡ true) rows
  pub known : (steps : List Step) → has_seen so_far steps ≡ true → IsHeld tables turns so_far rows steps

-- what a node is in is the base or was merged, and is no leaf; the node's cases are those of their choices
pub record IsOpen (tables : Tables) (turns : Turns) (so_far : Gathered) (above : List Step) (number : ℕ) : Type 0 where
  pub parent : (above ≡ so_far.base) ⊎ (has_seen so_far above ≡ true)
  pub inner : at_node tables (record { steps = above }) has_value ≡ false
  pub chosen : AreChosen turns above (cases_of tables number)

-- a node of that number may be merged now, or was
pub record IsReady (tables : Tables) (turns : Turns) (so_far : Gathered) (steps : List Step) (number : ℕ) : Type 0 where
  pub above : List Step
  pub keys : List (List ℕ)
  pub is : steps ≡ above ++ record { node = number; keys = keys } ∷ []
  pub there : IsOpen tables turns so_far above number

-- a node that was not merged yet counts as merged afterwards, and nothing else is new
pub record Notes (before : Gathered) (steps : List Step) (after : Gathered) : Type 0 where
  pub new : has_seen before steps ≡ false
  pub added : (key : List Step) → has_seen after key ≡ (has_seen before key || is_same_path steps key)
  pub base : after.base ≡ before.base
  pub rows : after.rows ≡ before.rows
  pub next : after.next ≡ before.next

-- a node that was merged before, where nothing is new
abbrev pub IsStood : Gathered → List Step → Gathered → Type 0
IsStood before steps after = (has_seen before steps ≡ true) × (after ≡ before)

-- a node that may be merged counts as merged, before its rows are there
abbrev pub IsNoted : Tables → Turns → Gathered → List Step → ℕ → Gathered → Type 0
IsNoted tables turns before steps number after = IsReady tables turns before steps number × Notes before steps after

-- a node was not merged yet, what it is in is the base or was, and is no leaf; its cases are those of their choices
pub record IsFree (tables : Tables) (turns : Turns) (so_far : Gathered) (steps above : List Step)
    (number : ℕ) : Type 0 where
  pub new : has_seen so_far steps ≡ false
  pub parent : (above ≡ so_far.base) ⊎ (has_seen so_far above ≡ true)
  pub inner : at_node tables (record { steps = above }) has_value ≡ false
  pub chosen : AreChosen turns above (cases_of tables number)

-- a node that may be merged now; an entry that the user orders has its turn
pub record IsFresh (tables : Tables) (turns : Turns) (so_far : Gathered) (steps : List Step) : Type 0 where
  pub above : List Step
  pub step : Step
  pub is : steps ≡ above ++ step ∷ []
  pub free : IsFree tables turns so_far steps above step.node
  pub turn : is_by_user tables step.node ≡ true → so_far.next ≤ turn_of turns steps

-- a leaf stands, and the rows of its node are its row
pub record Stands (tables : Tables) (turns : Turns) (so_far : Gathered) (path : Path) (block : List Row) : Type 0 where
  pub leaf : at_node tables path has_value ≡ true
  pub row : Row
  pub found : get in_marks so_far.rows (marks tables (turn_of turns) path.steps) ≡ Some row
  pub at : row.path.steps ≡ path.steps
  pub only : block ≡ row ∷ []

-- rows are at a node or below it
abbrev pub AreBelow : Path → List Row → Type 0
AreBelow path rows = All (λ row. is_at_or_below path.steps row.path ≡ true) rows

-- ---- what a call leaves that takes what it is given
-- the rows as they are: with a node more that has none
abbrev pub TakesPlace : Tables → Turns → Gathered → List Step → Gathered → Type 0
TakesPlace tables turns before steps after =
    IsFresh tables turns before steps ×
    ((rows : List Row) → Holds tables turns before rows → Holds tables turns after rows)

-- a turn is not over, and is before the next
abbrev pub Receives : Tables → Turns → ℕ → List Step → ℕ → Option ℕ → Type 0
Receives tables turns next steps number None = Unit {0}
Receives tables turns next steps number (Some after) =
    (is_by_user tables number ≡ true → (next ≤ turn_of turns steps) × (turn_of turns steps < after)) × (next ≤ after)

-- with one row more of a node that may be merged now, put in its place
abbrev pub TakesRow : Tables → Turns → Gathered → Row → Gathered → Type 0
TakesRow tables turns before row after =
    IsFresh tables turns before row.path.steps ×
    ((rows : List Row) → Holds tables turns before rows → Holds tables turns after (put tables turns rows row))

-- with several rows more, each put in its place in turn
abbrev pub TakesRows : Tables → Turns → Gathered → List Row → Gathered → Type 0
TakesRows tables turns before block after =
    (rows : List Row) → Holds tables turns before rows →
    Holds tables turns after (fold (put tables turns) rows block)

-- with the rows of a node
abbrev pub TakesBlock : Tables → Turns → Gathered → Path → List Row → Gathered → Type 0
TakesBlock tables turns before path block after =
    (rows : List Row) (value : Option (List ℕ)) → Holds tables turns before rows →
    block ≡ rows_of_node tables path value →
    Holds tables turns after (left_by tables rows (record { path = path; action = Merge value; place = Kept }))

-- with one edit more
abbrev pub Gathers : Tables → Turns → Gathered → Edit → Gathered → Type 0
Gathers tables turns before edit after =
    (rows : List Row) → Holds tables turns before rows → Holds tables turns after (left_by tables rows edit)
