-- Rows that are put in their place, one level after another.
use Rattle.std.specs.Prelude.{◌≡◌, ◌++◌, ◌+◌, ◌<◌, length, slice_get, drop, ℕ, Bool, true, false, List, [], ◌∷◌, take, Option, Some, None}
use Rattle.std.specs.List.{All}
use Rattle.nc_names.specs.declared.path.Place.{Place}
use Rattle.nc_names.specs.declared.path.Row.{Row}
use Rattle.nc_names.specs.declared.path.Step.{Step}
use Rattle.nc_schema.specs.Order.{keys_above}
use Rattle.nc_schema.specs.Standing.{cases_differ, cases_of, is_by_user, sibling_before}
use Rattle.nc_schema.specs.Tables.{Tables}
use Rattle.nc_branches.specs.inner.Shoots.{Shoot, rows_of}
use Rattle.nc_branches.specs.inner.Order.{AreUnder}
use Rattle.nc_names.specs.Same.{is_same_step}
use Rattle.nc_branches.specs.Orders.{first_order}
use Rattle.nc_branches.specs.Sides.{among, is_front, stays}
use Rattle.nc_branches.specs.declared.labels.Turn.{Turn}

-- the node of the last step, or else the one above
abbrev pub last_node : Option ℕ → List Step → Option ℕ
last_node above [] = above
last_node above (step ∷ steps) = last_node (Some step.node) steps

-- among its siblings the step stands by its number and its keys
pub record IsPlain (tables : Tables) (above : Option ℕ) (step : Step) : Type 0 where
  pub system : is_by_user tables step.node ≡ false
  pub keys : All (λ key. key < step.node) (keys_above tables above)

-- rows below the first steps of a path
pub record IsLevel (steps : List Step) (depth : ℕ) (above : Option ℕ) (rows : List Row) : Type 0 where
  pub above_is : above ≡ last_node None (take depth steps)
  pub under : AreUnder (take depth steps) rows

-- where an entry goes among those of a list that the user orders (RFC 7950 7.7.9, 7.8.6), without a list of their
-- order: `whole` are the rows before the edit, `laid` those into which it is put, and `beside` leads to the entry
-- beside which it goes
pub record Laying : Type 0 where
  pub whole : List Row
  pub laid : List Row
  pub known : List Row
  pub place : Place
  pub turn : Turn
  pub beside : List Step

-- rows that go in the place of all that stand at or below a path, by the orders along it
pub record Aiming : Type 0 where
  pub tables : Tables
  pub orders : List (List (List (List ℕ)))
  pub steps : List Step
  pub block : List Row
  pub lay : Option Laying

-- rows pass a test
abbrev pub Pass : (Row → Bool) → List Row → Type 0
Pass test rows = All (λ row. test row ≡ true) rows

-- rows are those of a list and of the block: they pass each test that all of these pass
abbrev pub IsFrom : List Row → List Row → List Row → Type 0
IsFrom block old new = (test : Row → Bool) → Pass test old → Pass test block → Pass test new

-- the block is in its place among the others
pub record IsPut (aim : Aiming) (depth : ℕ) (above : Option ℕ) (old new : List Row) : Type 0 where
  pub put : AreUnder aim.steps aim.block → IsLevel aim.steps depth above old →
      new ≡ among aim.tables aim.orders aim.steps aim.block old

-- the path leads to the node, and its block is below that too
pub record Leads (aim : Aiming) (depth : ℕ) (shoot : Shoot) : Type 0 where
  pub rest : List Step
  pub steps_are : aim.steps ≡ shoot.row.path.steps ++ rest
  pub length_is : length shoot.row.path.steps ≡ depth + 1
  pub under : AreUnder shoot.row.path.steps shoot.below.rows
  pub block : AreUnder shoot.row.path.steps aim.block

-- a row stays, before the path or after it
abbrev pub IsAt : Aiming → Bool → Row → Type 0
IsAt aim before row =
    (stays aim.tables aim.steps aim.block row ≡ true) × (is_front aim.tables aim.orders aim.steps row ≡ before)

-- so do all rows of a level
unfoldable pub AreAside : Bool → Aiming → ℕ → Option ℕ → List Row → Type 0
AreAside before aim depth above rows =
    AreUnder aim.steps aim.block → IsLevel aim.steps depth above rows → All (IsAt aim before) rows

-- a node parts from the path at a depth, by steps that say on which side it stands
pub record IsAside (before : Bool) (aim : Aiming) (depth : ℕ) (above : Option ℕ) (shoot : Shoot) : Type 0 where
  pub asked : Step
  pub asked_is : slice_get aim.steps depth ≡ Some asked
  pub own : Step
  pub own_is : slice_get shoot.row.path.steps depth ≡ Some own
  pub differ : is_same_step own asked ≡ false
  pub cases : cases_differ (cases_of aim.tables asked.node) (cases_of aim.tables own.node) ≡ false
  pub side :
      sibling_before aim.tables (keys_above aim.tables above) (first_order (drop depth aim.orders)) own asked ≡ before
  pub under : AreUnder shoot.row.path.steps shoot.below.rows

-- rows are those of the node at the path
pub record IsNode (steps : List Step) (rows : List Row) (shoot : Shoot) : Type 0 where
  pub rows_are : rows_of shoot ≡ rows
  pub under : AreUnder steps (rows_of shoot)

-- the node has no row but its own, as the block has one alone, and the two are as deep and have one value
pub record HasBlock (aim : Aiming) (shoot : Shoot) : Type 0 where
  pub row : Row
  pub block_is : aim.block ≡ row ∷ []
  pub rows_are : rows_of shoot ≡ shoot.row ∷ []
  pub length_is : length shoot.row.path.steps ≡ length row.path.steps
  pub value_is : shoot.row.value ≡ row.value

-- a node has no row but its own
pub record IsAlone (row : Row) (shoot : Shoot) : Type 0 where
  pub row_is : row ≡ shoot.row
  pub rows_are : rows_of shoot ≡ row ∷ []
