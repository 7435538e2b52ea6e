use Rattle.nc_yang_nodes.specs.inner.Tables.{IsTableOf}
use Rattle.nc_yang_nodes.proofs.table.Table.with_barren.Given as goal

abbrev pub invariant-loop-number : goal.invariant-loop-number
invariant-loop-number l = IsTableOf l.fn.self.scopes.now l.fn.self.features.now l.table
