-- Where a place puts an entry (RFC 7950 7.7.9, 7.8.6), and which entries are known after an edit.
use Rattle.std.specs.Prelude.{◌≡◌, ◌++◌, ◌+◌, ℕ, Bool, true, false, if◌then◌else◌, List, [], Some, length, slice_get, take}
use Rattle.nc_names.specs.Same.{is_same_keys}
use Rattle.nc_names.specs.declared.path.Place.{Place}
use Rattle.nc_names.specs.declared.path.Place.TheVariants.{Kept, First, Last, Before, After}
use Rattle.nc_names.specs.declared.path.Row.{Row}
use Rattle.nc_names.specs.declared.path.Step.{Step}
use Rattle.nc_schema.specs.Standing.{has_row, is_by_user}
use Rattle.nc_schema.specs.Tables.{Tables}
use Rattle.nc_branches.specs.Tallies.{IsTallied}
use Rattle.nc_branches.specs.inner.Known.{Knows}
use Rattle.nc_branches.specs.inner.Turning.{entry_at}
use Rattle.nc_branches.specs.declared.labels.Turn.{Turn}
use Rattle.nc_branches.specs.declared.labels.Turn.TheVariants.{First as TurnFirst, Last as TurnLast, Before as TurnBefore, After as TurnAfter}

-- an entry that stands is to keep its place
abbrev pub keeps : Place → List (List ℕ) → Bool
keeps Kept keys = true
keeps First keys = false
keeps Last keys = false
keeps (Before anchor) keys = is_same_keys anchor keys
keeps (After anchor) keys = is_same_keys anchor keys

-- where one that does not stand goes
abbrev pub turn_of : Place → List (List ℕ) → Turn
turn_of Kept keys = TurnLast
turn_of First keys = TurnFirst
turn_of Last keys = TurnLast
turn_of (Before anchor) keys = if is_same_keys anchor keys then TurnLast else TurnBefore
turn_of (After anchor) keys = if is_same_keys anchor keys then TurnLast else TurnAfter

-- the entry beside which it goes
abbrev pub anchor_of : Place → List (List ℕ)
anchor_of Kept = []
anchor_of First = []
anchor_of Last = []
anchor_of (Before anchor) = anchor
anchor_of (After anchor) = anchor

-- a path ends with a step at a depth
pub record IsLast (steps : List Step) (depth : ℕ) (step : Step) : Type 0 where
  pub last_is : length steps ≡ depth + 1
  pub step_is : slice_get steps depth ≡ Some step

-- the node at a path keeps its place, or the user does not order it
pub record IsKept (tables : Tables) (place : Place) (steps : List Step) : Type 0 where
  pub depth : ℕ
  pub step : Step
  pub last : IsLast steps depth step
  pub keeps_is : is_by_user tables step.node ≡ true → keeps place step.keys ≡ true

-- where an entry goes that is moved: it stands nowhere, or is not to keep its place; on which side of another, or at
-- which end; and the path of that other
pub record IsBerth (rows : List Row) (place : Place) (steps : List Step) (turn : Turn) (beside : List Step)
    : Type 0 where
  pub depth : ℕ
  pub step : Step
  pub last : IsLast steps depth step
  pub goes : keeps place step.keys ≡ true → has_row rows steps ≡ false
  pub turn_is : turn ≡ turn_of place step.keys
  pub beside_is : beside ≡ entry_at (take depth steps) step.node (anchor_of place)

-- what is known, and the entries of other rows none of which has two
pub record KnowsBlock (known block now : List Row) : Type 0 where
  pub more : List Row
  pub tallied : IsTallied more block
  pub knows : Knows now (known ++ more)
