-- The faults that are left.
use Rattle.std.proofs.Common.{◌≡◌, drop}
use Rattle.nc_yang_statements.specs.Rules.{first}
use Rattle.nc_yang_data.specs.Conditions.{all_conditions}
use Rattle.nc_yang_data.proofs.conditions.first_conditional.Given as goal

abbrev pub invariant-loop-number : goal.invariant-loop-number
invariant-loop-number l =
    first (all_conditions l.scopes l.plan l.schema.nodes) ≡ first (all_conditions l.scopes l.plan (drop l.number l.schema.nodes))
