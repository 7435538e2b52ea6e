use Rattle.std.proofs.Common.{◌≡◌, ◌≤◌, take, length}
use Rattle.nc_names.specs.Bindings.{space_of}
use Rattle.nc_message.specs.inner.Levels.{in_force}
use Rattle.nc_message.proofs.bounds.Bounds.find.Given as goal

-- the tags further in do not speak of it
abbrev pub invariant-loop-left : goal.invariant-loop-left
invariant-loop-left l =
    (l.left ≤ length l.levels) × (space_of l.prefix l.self ≡ space_of l.prefix (in_force (take l.left l.levels)))

abbrev pub decreases-loop-left : goal.decreases-loop-left
decreases-loop-left l = l.left
