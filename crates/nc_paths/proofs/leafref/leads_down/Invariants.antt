-- The same node is led to from here.
use Rattle.std.proofs.Common.{◌≡◌, length}
use Rattle.std.specs.Option.{option_copied}
use Rattle.nc_schema.specs.InstancePaths.{leads_down}
use Rattle.nc_paths.specs.Parts.{parts_of}
use Rattle.nc_paths.proofs.leafref.leads_down.Given as goal

abbrev pub invariant-loop-left : goal.invariant-loop-left
invariant-loop-left g l =
    leads_down l.schema l.space (g.B.Binds.bound l.bounds) l.fn.above (parts_of (option_copied l.fn.parts))
    ≡ leads_down l.schema l.space (g.B.Binds.bound l.bounds) l.above (parts_of (option_copied l.left))

abbrev pub decreases-loop-left : goal.decreases-loop-left
decreases-loop-left g l = length (parts_of (option_copied l.left))
