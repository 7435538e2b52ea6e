-- The values of the keys so far.
use Rattle.std.proofs.Common.{◌≡◌, map, take}
use Rattle.nc_schema.specs.InstancePaths.{key_given}
use Rattle.nc_paths.proofs.resolve.values_given.Given as goal

abbrev pub invariant-loop-key : goal.invariant-loop-key
invariant-loop-key g l = l.values ≡ map (key_given l.schema (g.B.Binds.bound l.bounds) l.number l.written) (take l.key-index l.key-items)
