use Rattle.std.proofs.Common.{◌≡◌, length}
use Rattle.std.specs.Cmp.Lexicographic.{pointwise}
use Rattle.nc_message.specs.Bindings.{is_same_bound}
use Rattle.nc_message.proofs.bounds.are_same.Given as goal

-- the answer is that of the rest
abbrev pub invariant-loop-bound : goal.invariant-loop-bound
invariant-loop-bound l = pointwise is_same_bound l.fn.mine l.fn.theirs ≡ pointwise is_same_bound l.mine l.theirs

abbrev pub decreases-loop-bound : goal.decreases-loop-bound
decreases-loop-bound l = length l.mine
