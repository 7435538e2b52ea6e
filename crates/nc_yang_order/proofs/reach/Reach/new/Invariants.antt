use Rattle.std.proofs.Common.{◌≡◌}
use Rattle.std.specs.Prelude.{false, replicate}
use Rattle.nc_yang_order.proofs.reach.Reach.new.Given as goal

abbrev pub invariant-loop-number : goal.invariant-loop-number
invariant-loop-number l = l.marks ≡ replicate l.number false
