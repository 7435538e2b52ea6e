use Rattle.std.proofs.Common.{drop}
use Rattle.nc_yang_nodes.specs.inner.Tables.{Barren, children_at, test_of}
use Rattle.nc_yang_nodes.proofs.table.Table.plans_nothing.Given as goal

abbrev pub invariant-loop-place : goal.invariant-loop-place
invariant-loop-place l =
    Barren l.self.scopes.now (test_of l.self) (drop l.place (children_at l.self.scopes.now l.number))
    → Barren l.self.scopes.now (test_of l.self) (children_at l.self.scopes.now l.number)
