-- The faults that are left.
use Rattle.std.proofs.Common.{◌≡◌, drop}
use Rattle.nc_yang_statements.specs.Rules.{first}
use Rattle.nc_yang_data.specs.Defaults.{choices_from}
use Rattle.nc_yang_data.proofs.defaults.first_of_choices.Given as goal

abbrev pub invariant-loop-number : goal.invariant-loop-number
invariant-loop-number l =
    first (choices_from l.scopes l.schema l.plan 0 l.plan.choices)
    ≡ first (choices_from l.scopes l.schema l.plan l.number (drop l.number l.plan.choices))
