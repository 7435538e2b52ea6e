-- A node at which it is known on which side a path goes on.
use Rattle.std.specs.Prelude.{◌≡◌, ℕ, true, Option, Some, slice_get}
use Rattle.nc_names.specs.declared.path.Step.{Step}
use Rattle.nc_branches.specs.inner.Order.{depth_of}
use Rattle.nc_branches.specs.inner.Putting.{Aiming, IsPlain}
use Rattle.nc_branches.specs.declared.tree.Fork.{Fork}

-- the node is marked as ordered, it stands at the depth, and the step of the path there is plain
pub record IsReady (aim : Aiming) (depth : ℕ) (above : Option ℕ) (fork : Fork) : Type 0 where
  pub ordered : fork.ordered ≡ true
  pub depth_is : depth_of fork.twig ≡ depth
  pub step : Step
  pub step_is : slice_get aim.steps depth ≡ Some step
  pub plain : IsPlain aim.tables above step
