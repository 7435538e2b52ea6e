use Rattle.std.proofs.Common.{◌≡◌, ◌++◌, List, length}
use Rattle.nc_names.specs.declared.name.Bound.{Bound}
use Rattle.nc_message.specs.inner.Declaring.{Declares}
use Rattle.nc_message.proofs.start.push_bound_uses.Given as goal

-- the uses so far are declared
abbrev pub invariant-loop-bound : goal.invariant-loop-bound
invariant-loop-bound l = (front : List Bound) ×
    (l.bounds ≡ front ++ l.rest) × Declares l.fn.seen.seen l.seen.seen l.fn.out l.out front

abbrev pub decreases-loop-bound : goal.decreases-loop-bound
decreases-loop-bound l = length l.rest
