-- What stays known of siblings when others are put among them.
use Rattle.std.specs.Prelude.{◌≡◌, Bool, true, List, Option, Some, IfSome, slice_get}
use Rattle.std.specs.declared.cmp.Ordering.{Ordering}
use Rattle.nc_names.specs.declared.path.Row.{Row}
use Rattle.nc_names.specs.declared.path.Step.{Step}
use Rattle.nc_branches.specs.Branches.{Branches}
use Rattle.nc_branches.specs.inner.Forks.{IsForkOf}
use Rattle.nc_branches.specs.inner.Order.{AreParted, AreUnder, depth_of}
use Rattle.nc_branches.specs.inner.Places.{IsAsked}
use Rattle.nc_branches.specs.inner.Putting.{Aiming, IsFrom}
use Rattle.nc_branches.specs.inner.Shoots.{Shoot}
use Rattle.nc_branches.specs.inner.Steady.{AreNumbered, AreWholeParts}
use Rattle.nc_branches.specs.declared.tree.Fork.{Fork}
use Rattle.nc_branches.specs.declared.tree.Marks.{Marks}

-- what is marked of a node among its siblings is so
pub record AreMarked (marks : Marks) (shoot : Shoot) (left right : List Row) : Type 0 where
  pub parted : marks.ordered ≡ true → AreParted shoot left right
  pub numbers : marks.numbered ≡ true → AreNumbered shoot left right
  pub wholes : marks.whole ≡ true → AreWholeParts shoot left right

-- the step of a node passes a test beside the one that is asked for at its depth
pub record IsPassed (test : Step → Step → Bool) (steps : List Step) (shoot : Shoot) : Type 0 where
  pub asked : Step
  pub asked_is : slice_get steps (depth_of shoot) ≡ Some asked
  pub own : Step
  pub own_is : slice_get shoot.row.path.steps (depth_of shoot) ≡ Some own
  pub passes : test own asked ≡ true

-- beside a node that is compared with a path stand rows of those that stood there, and of those that go to the path
pub record IsRegrown (aim : Aiming) (side : Option Ordering) (fork : Fork) (old new : List Row) : Type 0 where
  pub branches : Branches
  pub is : IsForkOf branches fork
  pub compared : IfSome side (λ way. IsAsked way aim.steps fork.twig)
  pub under : AreUnder aim.steps aim.block
  pub from : IsFrom aim.block old new
