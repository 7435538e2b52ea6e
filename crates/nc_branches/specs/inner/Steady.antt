-- Siblings that stand by their numbers, and entries that have rows of their own.
use Rattle.std.specs.Prelude.{◌≡◌, ◌==◌, ◌&&◌, ◌||◌, ◌<◌, ℕ, Bool, true, false, List, length, ltb, slice_get, Some}
use Rattle.std.specs.List.{All}
use Rattle.std.specs.Option.{option_map_or}
use Rattle.nc_names.specs.declared.path.Row.{Row}
use Rattle.nc_names.specs.declared.path.Step.{Step}
use Rattle.nc_schema.specs.Standing.{exists, has_row}
use Rattle.nc_branches.specs.Entries.{are_some, is_entry}
use Rattle.nc_branches.specs.inner.Order.{AreUnder, depth_of}
use Rattle.nc_branches.specs.inner.Shoots.{Shoot, rows_of}

-- a step comes before another by its number, or both are of one list
abbrev pub is_low : Step → Step → Bool
is_low step own = ltb own.node step.node || (own.node == step.node && (are_some own.keys && are_some step.keys))

-- it comes after it, or both are of one list
abbrev pub is_high : Step → Step → Bool
is_high step own = ltb step.node own.node || (own.node == step.node && (are_some own.keys && are_some step.keys))

-- the steps of rows at a depth pass a test
unfoldable pub AreBy : ℕ → (Step → Bool) → List Row → Type 0
AreBy depth test rows = All (λ row. option_map_or test (slice_get row.path.steps depth) false ≡ true) rows

-- the last step to a node is the one at that depth, and passes a test
pub record IsBy (test : Step → Bool) (depth : ℕ) (shoot : Shoot) : Type 0 where
  pub depth_is : depth_of shoot ≡ depth
  pub own : Step
  pub own_is : slice_get shoot.row.path.steps depth ≡ Some own
  pub is : test own ≡ true
  pub under : AreUnder shoot.row.path.steps shoot.below.rows

-- the rows on the left of a node come before it by their numbers, and those on its right after it
abbrev pub AreNumbered : Shoot → List Row → List Row → Type 0
AreNumbered shoot left right =
    (step : Step) → slice_get shoot.row.path.steps (depth_of shoot) ≡ Some step →
    AreBy (depth_of shoot) (is_low step) left × AreBy (depth_of shoot) (is_high step) right

-- where a row stands at an entry or below it, more than so many steps deep, the entry has a row of its own
unfoldable pub AreWhole : ℕ → List Row → Type 0
AreWhole depth rows =
    (steps : List Step) → depth < length steps → is_entry steps ≡ true → exists rows steps ≡ true →
    has_row rows steps ≡ true

-- so it is on the left of a node, at and below it, and on its right
abbrev pub AreWholeParts : Shoot → List Row → List Row → Type 0
AreWholeParts shoot left right =
    AreWhole (depth_of shoot) left × AreWhole (depth_of shoot) (rows_of shoot) × AreWhole (depth_of shoot) right
