use Rattle.nc_yang_nodes.specs.inner.Tables.{test_of}
use Rattle.nc_yang_nodes.specs.inner.Walks.{ComesTo, stack}
use Rattle.nc_yang_nodes.proofs.walk.Walk.run.Given as goal

abbrev pub invariant-loop : goal.invariant-loop
invariant-loop l = ComesTo l.table.scopes.now (test_of l.table) (stack l.table.scopes.now l.fn.self.frames) l.fn.self.plan l.self
