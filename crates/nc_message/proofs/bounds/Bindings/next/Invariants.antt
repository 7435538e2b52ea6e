use Rattle.std.proofs.Common.{◌≡◌, ◌+◌, length}
use Rattle.nc_message.specs.inner.Levels.{left_of, steps_in}
use Rattle.nc_message.proofs.bounds.Bindings.next.Given as goal

-- the same bindings are left
abbrev pub invariant-loop-bound : goal.invariant-loop-bound
invariant-loop-bound l = l.fn.self ≡ left_of l.own l.later

abbrev pub decreases-loop-bound : goal.decreases-loop-bound
decreases-loop-bound l = length l.own + steps_in l.later
