-- The nodes before, and the rules that are left.
use Rattle.std.proofs.Common.{◌≡◌, ◌++◌, drop, length}
use Rattle.nc_schema.specs.Tables.{no_tables}
use Rattle.nc_yang_statements.specs.Rules.{first}
use Rattle.nc_yang_data.specs.Data.{nodes_from}
use Rattle.nc_yang_data.specs.Places.{faults_from}
use Rattle.nc_yang_data.specs.inner.Cases.{case_test}
use Rattle.nc_yang_data.proofs.tables.add_nodes.Given as goal

abbrev pub invariant-loop-planned : goal.invariant-loop-planned
invariant-loop-planned l = record {
  count : length l.schema.nodes ≡ l.planned-index;
  others : l.schema ≡ record no_tables { nodes = l.schema.nodes };
  left : nodes_from l.scopes l.drafts (case_test l.cases) 0 l.planned-items
      ≡ l.schema.nodes ++ nodes_from l.scopes l.drafts (case_test l.cases) l.planned-index (drop l.planned-index l.planned-items);
  faults : first (faults_from l.scopes l.drafts (case_test l.cases) 0 l.planned-items)
      ≡ first (faults_from l.scopes l.drafts (case_test l.cases) l.planned-index (drop l.planned-index l.planned-items));
}
