-- The parts so far, and those that are left with the one before them.
use Rattle.std.proofs.Common.{◌≡◌, ◌++◌, drop}
use Rattle.nc_yang_types.specs.Ranges.{merged, merged_with}
use Rattle.nc_yang_types.proofs.inside.merged.Given as goal

abbrev pub invariant-loop-next : goal.invariant-loop-next
invariant-loop-next l = merged l.parts ≡ l.merged ++ merged_with l.last (drop l.next-index l.rest)
