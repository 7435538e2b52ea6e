-- What is made canonical so far, and the rest.
use Rattle.std.proofs.Common.{◌≡◌, drop}
use Rattle.nc_schema.specs.Values.{canonical_keys}
use Rattle.nc_paths.specs.inner.Prepend.{before}
use Rattle.nc_types.proofs.paths.canonical_keys.Given as goal

abbrev pub invariant-loop-place : goal.invariant-loop-place
invariant-loop-place g l = canonical_keys (g.K.Gives.gives l.schema (g.B.Binds.bound l.bounds)) l.nodes l.keys ≡ before l.out (canonical_keys (g.K.Gives.gives l.schema (g.B.Binds.bound l.bounds)) (drop l.place l.nodes) (drop l.place l.keys))
