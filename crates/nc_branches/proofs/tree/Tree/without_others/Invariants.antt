use Rattle.nc_branches.specs.inner.Gone.{LeavesStaying}
use Rattle.nc_branches.proofs.tree.Tree.without_others.Given as goal

abbrev pub invariant-loop : goal.invariant-loop
invariant-loop l = LeavesStaying l.schema l.steps l.self.rows l.rest.rows
