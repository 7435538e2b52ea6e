use Rattle.nc_changes.specs.inner.Common.{AreSameBehind, rows_of}
use Rattle.nc_changes.proofs.common.before_last.Given as goal

abbrev pub invariant-loop-left : goal.invariant-loop-left
invariant-loop-left l = AreSameBehind (rows_of l.rows) (rows_of l.others) l.first l.left l.rest

abbrev pub decreases-loop-left : goal.decreases-loop-left
decreases-loop-left l = l.left
