-- What is left of the cases and of the names.
use Rattle.std.proofs.Common.{◌≡◌, ◌≤◌, drop, length}
use Rattle.nc_yang_data.specs.Leafs.{are_named}
use Rattle.nc_yang_data.specs.inner.Cases.{case_test}
use Rattle.nc_yang_data.proofs.cases.Cases.are_each_named.Given as goal

abbrev pub invariant-loop-case : goal.invariant-loop-case
invariant-loop-case l =
    (l.at ≤ length l.names) × (are_named (case_test l.self) l.cases l.names ≡ are_named (case_test l.self) (drop l.case-index l.cases) (drop l.at l.names))
