-- none of the first data nodes has a fault
use Rattle.std.proofs.Common.{◌≡◌, ◌<◌, ℕ}
use Rattle.std.specs.Prelude.{None}
use Rattle.nc_yang.specs.Depths.{depth_fault}
use Rattle.nc_yang.proofs.depth.first_fault.Given as goal

abbrev pub invariant-loop-number : goal.invariant-loop-number
invariant-loop-number l = (number : ℕ) → number < l.number → depth_fault l.scopes l.plan l.schema number ≡ None
