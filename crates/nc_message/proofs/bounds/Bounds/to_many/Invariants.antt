use Rattle.std.proofs.Common.{◌≡◌, ◌++◌, length}
use Rattle.nc_message.proofs.bounds.Bounds.to_many.Given as goal

-- the bindings so far, and those that are left
abbrev pub invariant-loop-bound : goal.invariant-loop-bound
invariant-loop-bound l = l.self ≡ l.bounds ++ l.rest

abbrev pub decreases-loop-bound : goal.decreases-loop-bound
decreases-loop-bound l = length l.rest
