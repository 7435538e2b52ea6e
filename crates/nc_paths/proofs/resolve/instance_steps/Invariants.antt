-- The steps so far, and those of the rest.
use Rattle.std.proofs.Common.{◌≡◌, drop}
use Rattle.nc_schema.specs.InstancePaths.{instance_steps}
use Rattle.nc_paths.specs.inner.Prepend.{before}
use Rattle.nc_paths.proofs.resolve.instance_steps.Given as goal

abbrev pub invariant-loop-one : goal.invariant-loop-one
invariant-loop-one l = instance_steps l.pattern ≡ before l.steps (instance_steps (drop l.one-index l.pattern))
