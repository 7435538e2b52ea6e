-- Where entries of a list that the user orders stand to one that is put among them (RFC 7950 7.7.9, 7.8.6).
use Rattle.std.specs.Prelude.{◌≡◌, ◌++◌, ◌<◌, ◌+◌, ℕ, Bool, true, false, ltb, if◌then◌else◌, IfSome, List, [], ◌∷◌, Option, Some, drop, length, slice_get, take}
use Rattle.std.specs.List.{All}
use Rattle.nc_names.specs.Same.{is_same_keys, is_same_step}
use Rattle.nc_names.specs.declared.path.Row.{Row}
use Rattle.nc_names.specs.declared.path.Step.{Step}
use Rattle.nc_schema.specs.Order.{keys_above}
use Rattle.nc_schema.specs.Standing.{entries, has_row, is_by_user, sibling_before, stands_before}
use Rattle.nc_schema.specs.Tables.{Tables}
use Rattle.nc_branches.specs.Entries.{are_some}
use Rattle.nc_branches.specs.Orders.{first_order}
use Rattle.nc_branches.specs.Tallies.{IsTallied}
use Rattle.nc_branches.specs.inner.Free.{FreeWhere}
use Rattle.nc_branches.specs.inner.Putting.{Aiming, IsFrom, IsPut, Laying}
use Rattle.nc_branches.specs.inner.Shoots.{Shoot, rows_of}
use Rattle.nc_branches.specs.declared.labels.Turn.{Turn}
use Rattle.nc_branches.specs.declared.labels.Turn.TheVariants.{Kept, First, Last, Before, After}

-- the path of an entry of a list below some steps
abbrev pub entry_at : List Step → ℕ → List (List ℕ) → List Step
entry_at above number keys = above ++ record { node = number; keys = keys } ∷ []

-- the path of an entry of the list to which the path's step at a depth leads
abbrev pub entry_by : Aiming → ℕ → Step → List (List ℕ) → List Step
entry_by aim depth asked keys = entry_at (take depth aim.steps) asked.node keys

-- the entry stands before that of the path, by the orders
abbrev pub is_ahead : Aiming → ℕ → Step → List (List ℕ) → Bool
is_ahead aim depth asked keys = stands_before (first_order (drop depth aim.orders)) keys asked.keys

-- among the numbers of its siblings the step stands by its own
pub record IsSingle (tables : Tables) (above : Option ℕ) (step : Step) : Type 0 where
  pub keys : All (λ key. key < step.node) (keys_above tables above)

-- a row parts from the path at a depth, and stands on that side of it
pub record IsSided (before : Bool) (aim : Aiming) (depth : ℕ) (above : Option ℕ) (asked : Step)
    (row : Row) : Type 0 where
  pub own : Step
  pub own_is : slice_get row.path.steps depth ≡ Some own
  pub differ : is_same_step own asked ≡ false
  pub side :
      sibling_before aim.tables (keys_above aim.tables above) (first_order (drop depth aim.orders)) own asked ≡ before

-- the entries that have a row among some are others than that of the path, and stand on that side of it
pub record AreEntries (before : Bool) (aim : Aiming) (depth : ℕ) (asked : Step) (rows : List Row) : Type 0 where
  pub other :
      (keys : List (List ℕ)) → are_some keys ≡ true → has_row rows (entry_by aim depth asked keys) ≡ true →
      is_same_keys keys asked.keys ≡ false
  pub side :
      (keys : List (List ℕ)) → are_some keys ≡ true → has_row rows (entry_by aim depth asked keys) ≡ true →
      is_ahead aim depth asked keys ≡ before

-- where one entry has a row, the others stand to that of the path as they stand to this one
pub record Follows (aim : Aiming) (lay : Laying) (depth : ℕ) (asked : Step) (keys : List (List ℕ))
    (rows : List Row) : Type 0 where
  pub other :
      (others : List (List ℕ)) → are_some others ≡ true → has_row rows (entry_by aim depth asked others) ≡ true →
      is_same_keys others keys ≡ false → is_same_keys others asked.keys ≡ false
  pub side :
      has_row lay.laid (entry_by aim depth asked keys) ≡ true → (others : List (List ℕ)) → are_some others ≡ true →
      has_row rows (entry_by aim depth asked others) ≡ true → is_same_keys others keys ≡ false →
      is_ahead aim depth asked others ≡ stands_before (entries lay.laid (take depth aim.steps) asked.node) others keys

-- and this one, which is another than that of the path, stands on that side of it
pub record IsBeside (before : Bool) (aim : Aiming) (lay : Laying) (depth : ℕ) (asked : Step)
    (rows : List Row) : Type 0 where
  pub keys : List (List ℕ)
  pub beside_is : lay.beside ≡ entry_by aim depth asked keys
  pub follows : Follows aim lay depth asked keys rows
  pub differ : is_same_keys keys asked.keys ≡ false
  pub side : has_row lay.laid (entry_by aim depth asked keys) ≡ true → is_ahead aim depth asked keys ≡ before

-- where the entry of the path goes, as the entries among some rows stand to it
abbrev pub TurnOf : Turn → Aiming → Laying → ℕ → Step → List Row → Type 0
TurnOf Kept aim lay depth asked rows = Follows aim lay depth asked asked.keys rows
TurnOf First aim lay depth asked rows = AreEntries false aim depth asked rows
TurnOf Last aim lay depth asked rows = AreEntries true aim depth asked rows
TurnOf Before aim lay depth asked rows = IsBeside false aim lay depth asked rows
TurnOf After aim lay depth asked rows = IsBeside true aim lay depth asked rows

-- so it is with the step at a depth, where the user orders its list; the rows are a part of those into which it is put
pub record IsLaid (turn : Turn) (aim : Aiming) (lay : Laying) (depth : ℕ) (rows : List Row) : Type 0 where
  pub before : List Row
  pub after : List Row
  pub laid_are : lay.laid ≡ before ++ rows ++ after
  pub tallied : IsTallied lay.known lay.laid
  pub turn_is :
      (asked : Step) → slice_get aim.steps depth ≡ Some asked → is_by_user aim.tables asked.node ≡ true →
      TurnOf turn aim lay depth asked rows

-- so it is where the orders are not listed
unfoldable pub IsTurned : Turn → Aiming → ℕ → List Row → Type 0
IsTurned turn aim depth rows = IfSome aim.lay (λ lay. IsLaid turn aim lay depth rows)

-- above the last step of a path each entry keeps its place
abbrev pub turn_by : Turn → List Step → ℕ → Turn
turn_by turn steps depth = if ltb (depth + 1) (length steps) then Kept else turn

-- so it is with each step of the path, among all rows
pub record AreLaid (aim : Aiming) (lay : Laying) : Type 0 where
  pub tallied : IsTallied lay.known lay.laid
  pub turns :
      (depth : ℕ) (asked : Step) → slice_get aim.steps depth ≡ Some asked → is_by_user aim.tables asked.node ≡ true →
      TurnOf (turn_by lay.turn aim.steps depth) aim lay depth asked lay.laid

-- each step of the path goes so among all rows, where the orders are not listed
unfoldable pub AreTurned : Aiming → Type 0
AreTurned aim = IfSome aim.lay (λ lay. AreLaid aim lay)

-- rows are a part of those into which it is put
unfoldable pub IsPartOf : Aiming → List Row → Type 0
IsPartOf aim rows =
    IfSome aim.lay (λ lay. (before : List Row) × (after : List Row) × (lay.laid ≡ before ++ rows ++ after))

-- the new rows are from the old ones and the block, which is in its place where the entries stand so, and where no
-- sibling gives way, if that was seen
pub record Puts (turn : Turn) (free : Bool) (aim : Aiming) (depth : ℕ) (above : Option ℕ)
    (old new : List Row) : Type 0 where
  pub from : IsFrom aim.block old new
  pub put : IsTurned turn aim depth old → FreeWhere free aim depth old → IsPut aim depth above old new

-- so it is with those of a node
pub record PutsIn (aim : Aiming) (depth : ℕ) (shoot : Shoot) (new : List Row) : Type 0 where
  pub from : IsFrom aim.block (rows_of shoot) new
  pub put : (above : Option ℕ) → IsPartOf aim shoot.below.rows → IsPut aim depth above (rows_of shoot) new
