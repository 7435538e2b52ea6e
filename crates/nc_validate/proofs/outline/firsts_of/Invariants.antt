-- The data nodes that are left have not been looked at.
use Rattle.nc_validate.specs.inner.Choices.{AreFirstsFrom}
use Rattle.nc_validate.proofs.outline.firsts_of.Given as goal

abbrev pub invariant-loop-left : goal.invariant-loop-left
invariant-loop-left l = AreFirstsFrom l.schema l.left l.firsts

abbrev pub decreases-loop-left : goal.decreases-loop-left
decreases-loop-left l = l.left
