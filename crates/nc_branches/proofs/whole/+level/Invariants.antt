use Rattle.std.proofs.Common.{◌≡◌, ◌++◌, length}
use Rattle.nc_branches.specs.inner.Shoots.{rows_of_all}
use Rattle.nc_branches.proofs.whole.+level.Given as goal

abbrev pub decreases-level : goal.decreases-level
decreases-level l = l.room

abbrev pub invariant-loop-first : goal.invariant-loop-first
invariant-loop-first l = rows_of_all l.twigs.items ++ l.rest ≡ l.rows

abbrev pub decreases-loop-first : goal.decreases-loop-first
decreases-loop-first l = length l.rest
