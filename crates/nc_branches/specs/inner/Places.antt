-- Where the rows at some steps, and below them, stand.
use Rattle.std.specs.Prelude.{◌≡◌, false, List, Some, slice_get}
use Rattle.std.specs.List.{All}
use Rattle.nc_names.specs.Same.{is_at_or_below}
use Rattle.nc_names.specs.declared.path.Row.{Row}
use Rattle.nc_names.specs.declared.path.Step.{Step}
use Rattle.nc_branches.specs.inner.Shoots.{Shoot, rows_of}
use Rattle.nc_branches.specs.inner.Order.{AreUnder, depth_of, step_cmp}
use Rattle.std.specs.declared.cmp.Ordering.{Ordering}
use Rattle.nc_branches.specs.declared.look.Where.{Where}
use Rattle.nc_branches.specs.declared.look.Where.TheVariants.{OnTheLeft, Here, OnTheRight, Anywhere}
use Rattle.nc_branches.specs.declared.tree.Fork.{Fork}

-- no row is at the steps or below them
unfoldable pub AreApart : List Step → List Row → Type 0
AreApart steps rows = All (λ row. is_at_or_below steps row.path ≡ false) rows

-- how the step that is asked for at the depth of a node compares with that node's
pub record IsAsked (way : Ordering) (steps : List Step) (shoot : Shoot) : Type 0 where
  pub asked : Step
  pub asked_is : slice_get steps (depth_of shoot) ≡ Some asked
  pub own : Step
  pub own_is : slice_get shoot.row.path.steps (depth_of shoot) ≡ Some own
  pub way_is : step_cmp asked own ≡ way
  pub under : AreUnder shoot.row.path.steps shoot.below.rows

-- the rows elsewhere are neither at the steps nor below them
abbrev pub IsWhere : Where → List Step → Fork → Type 0
IsWhere OnTheLeft steps fork = AreApart steps (rows_of fork.twig) × AreApart steps fork.right.rows
IsWhere Here steps fork = AreApart steps fork.left.rows × AreApart steps fork.right.rows
IsWhere OnTheRight steps fork = AreApart steps fork.left.rows × AreApart steps (rows_of fork.twig)
IsWhere Anywhere steps fork = Unit {0}
