-- How the rows of a tree are told apart by their steps.
use Rattle.std.specs.Prelude.{◌≡◌, ℕ, ◌-◌, ◌<◌, List, ◌++◌, length, slice_get, Some, option_map}
use Rattle.std.specs.List.{All}
use Rattle.std.specs.Ordering.{nat_cmp, ordering_then}
use Rattle.std.specs.Cmp.Lexicographic.{slice_cmp}
use Rattle.std.specs.declared.cmp.Ordering.{Ordering}
use Rattle.std.specs.declared.cmp.Ordering.TheVariants.{Less, Greater}
use Rattle.nc_names.specs.declared.path.Row.{Row}
use Rattle.nc_names.specs.declared.path.Step.{Step}
use Rattle.nc_branches.specs.inner.Shoots.{Shoot}

-- steps are ordered by their nodes, then by their keys
abbrev pub step_cmp : Step → Step → Ordering
step_cmp a b = ordering_then (nat_cmp a.node b.node) (slice_cmp (slice_cmp nat_cmp) a.keys b.keys)

-- the number of steps above a node
abbrev pub depth_of : Shoot → ℕ
depth_of shoot = length shoot.row.path.steps - 1

-- a row is at or below these steps
abbrev pub IsUnder : List Step → Row → Type 0
IsUnder steps row = (rest : List Step) × (row.path.steps ≡ steps ++ rest)

-- so are all of these
unfoldable pub AreUnder : List Step → List Row → Type 0
AreUnder steps rows = All (IsUnder steps) rows

-- how the step of a row at a depth compares with another
abbrev pub IsSide : Ordering → ℕ → Step → Row → Type 0
IsSide side depth step row = option_map (λ own. step_cmp own step) (slice_get row.path.steps depth) ≡ Some side

-- the steps of these rows at a depth come before another
unfoldable pub AreBefore : ℕ → Step → List Row → Type 0
AreBefore depth step rows = All (IsSide Less depth step) rows

-- they come after it
unfoldable pub AreAfter : ℕ → Step → List Row → Type 0
AreAfter depth step rows = All (IsSide Greater depth step) rows

-- the rows on the left of a node come before its step, and those on its right after it
abbrev pub AreParted : Shoot → List Row → List Row → Type 0
AreParted shoot left right =
    (step : Step) → slice_get shoot.row.path.steps (depth_of shoot) ≡ Some step →
    AreBefore (depth_of shoot) step left × AreAfter (depth_of shoot) step right

-- the last step to a node is the one at that depth, and comes on that side of another
pub record IsOnSide (side : Ordering) (depth : ℕ) (step : Step) (shoot : Shoot) : Type 0 where
  pub depth_is : depth_of shoot ≡ depth
  pub own : Step
  pub own_is : slice_get shoot.row.path.steps depth ≡ Some own
  pub side_is : step_cmp own step ≡ side
  pub under : AreUnder shoot.row.path.steps shoot.below.rows

-- the last step to a node is the one at that depth, and there are rows beside it
pub record HasBeside (depth : ℕ) (shoot : Shoot) (beside : List Row) : Type 0 where
  pub depth_is : depth_of shoot ≡ depth
  pub own : Step
  pub own_is : slice_get shoot.row.path.steps depth ≡ Some own
  pub some : 0 < length beside
  pub under : AreUnder shoot.row.path.steps shoot.below.rows

-- a node has a last step
pub record HasStep (shoot : Shoot) : Type 0 where
  pub own : Step
  pub own_is : slice_get shoot.row.path.steps (depth_of shoot) ≡ Some own
  pub under : AreUnder shoot.row.path.steps shoot.below.rows
