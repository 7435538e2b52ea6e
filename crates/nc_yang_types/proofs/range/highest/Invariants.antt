-- The part before those that are left.
use Rattle.std.proofs.Common.{◌≡◌, drop}
use Rattle.nc_yang_types.specs.Ranges.{highest}
use Rattle.nc_yang_types.proofs.range.highest.Given as goal

abbrev pub invariant-loop-part : goal.invariant-loop-part
invariant-loop-part l = highest l.fn.first l.rest ≡ highest l.last (drop l.part-index l.rest)
