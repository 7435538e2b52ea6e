-- The faults that are left.
use Rattle.std.proofs.Common.{◌≡◌, drop}
use Rattle.nc_yang_statements.specs.Rules.{first}
use Rattle.nc_yang_data.specs.Siblings.{choices_from}
use Rattle.nc_yang_data.proofs.siblings.first_of_choices.Given as goal

abbrev pub invariant-loop-number : goal.invariant-loop-number
invariant-loop-number l =
    first (choices_from l.scopes l.plan.choices 0 l.plan.choices)
    ≡ first (choices_from l.scopes l.plan.choices l.number (drop l.number l.plan.choices))
