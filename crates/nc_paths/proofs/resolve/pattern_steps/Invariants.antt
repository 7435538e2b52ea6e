-- The pattern so far, and that of the rest.
use Rattle.std.proofs.Common.{◌≡◌, None, drop}
use Rattle.nc_schema.specs.InstancePaths.{pattern_steps}
use Rattle.nc_paths.specs.inner.Prepend.{before}
use Rattle.nc_paths.proofs.resolve.pattern_steps.Given as goal

abbrev pub invariant-loop-one : goal.invariant-loop-one
invariant-loop-one g l =
    pattern_steps l.schema (g.B.Binds.bound l.bounds) None l.written ≡ before l.steps (pattern_steps l.schema (g.B.Binds.bound l.bounds) l.above (drop l.one-index l.written))
