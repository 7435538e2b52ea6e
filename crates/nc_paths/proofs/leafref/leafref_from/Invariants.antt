-- The path ends where it does from here.
use Rattle.std.proofs.Common.{◌≡◌, length}
use Rattle.std.specs.Option.{option_copied}
use Rattle.nc_schema.specs.InstancePaths.{leafref_from}
use Rattle.nc_paths.specs.Parts.{parts_of}
use Rattle.nc_paths.proofs.leafref.leafref_from.Given as goal

abbrev pub invariant-loop-left : goal.invariant-loop-left
invariant-loop-left g l =
    leafref_from l.schema l.space (g.B.Binds.bound l.bounds) l.fn.above (parts_of (option_copied l.fn.parts))
    ≡ leafref_from l.schema l.space (g.B.Binds.bound l.bounds) l.above (parts_of (option_copied l.left))

abbrev pub decreases-loop-left : goal.decreases-loop-left
decreases-loop-left g l = length (parts_of (option_copied l.left))
