-- The digits so far, and those to come.
use Rattle.std.proofs.Common.{◌≡◌, ◌≤◌, ◌++◌}
use Rattle.nc_schema.specs.NumberTexts.{last_digits}
use Rattle.nc_types.proofs.decimal.last_digits.Given as goal

abbrev pub invariant-loop-more : goal.invariant-loop-more
invariant-loop-more l = (last_digits l.digits l.size ≡ l.out ++ last_digits l.more l.size) × (l.more ≤ 18)

abbrev pub decreases-loop-more : goal.decreases-loop-more
decreases-loop-more l = l.more
