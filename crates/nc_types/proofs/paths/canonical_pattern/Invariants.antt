-- What is made canonical so far, and the rest.
use Rattle.std.proofs.Common.{◌≡◌, drop}
use Rattle.nc_schema.specs.Values.{canonical_pattern}
use Rattle.nc_paths.specs.inner.Prepend.{before}
use Rattle.nc_types.proofs.paths.canonical_pattern.Given as goal

abbrev pub invariant-loop-one : goal.invariant-loop-one
invariant-loop-one g l = canonical_pattern l.schema (g.K.Gives.gives l.schema (g.B.Binds.bound l.bounds)) l.steps ≡ before l.out (canonical_pattern l.schema (g.K.Gives.gives l.schema (g.B.Binds.bound l.bounds)) (drop l.one-index l.steps))
