-- The parts so far, and those that are left.
use Rattle.std.proofs.Common.{◌≡◌, Some, length}
use Rattle.std.specs.Option.{option_copied}
use Rattle.nc_yang_types.specs.Ranges.{parts_of}
use Rattle.nc_yang_types.specs.inner.Cuts.{joined, parts_left}
use Rattle.nc_yang_types.proofs.range.parts_of.Given as goal

abbrev pub invariant-loop-left : goal.invariant-loop-left
invariant-loop-left l =
    parts_of l.counted l.whole (parts_left (Some l.text))
    ≡ joined l.parts (parts_of l.counted l.whole (parts_left (option_copied l.left)))

abbrev pub decreases-loop-left : goal.decreases-loop-left
decreases-loop-left l = length (parts_left (option_copied l.left))
