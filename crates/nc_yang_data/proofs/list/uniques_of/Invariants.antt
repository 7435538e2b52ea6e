-- The leafs of the statements before; of the rules those are left that the other statements break.
use Rattle.std.proofs.Common.{◌≡◌, take, drop}
use Rattle.std.specs.List.{flat_map}
use Rattle.nc_yang_statements.specs.Rules.{first}
use Rattle.nc_yang_statements.specs.Statements.{below}
use Rattle.nc_yang_data.specs.Lists.{not_unique, unique_fault, unique_leafs}
use Rattle.nc_yang_data.specs.inner.Cases.{case_test}
use Rattle.nc_yang_data.proofs.list.uniques_of.Given as goal

abbrev pub invariant-loop-statement : goal.invariant-loop-statement
invariant-loop-statement l =
    (l.found ≡ flat_map (unique_leafs l.scopes.texts l.schema (case_test l.cases) l.text l.number) (take l.statement-index (below l.list)))
    × (first (not_unique l.scopes.texts l.schema (case_test l.cases) l.text l.number l.list)
    ≡ first (flat_map (unique_fault l.scopes.texts l.schema (case_test l.cases) l.text l.number) (drop l.statement-index (below l.list))))
