use Rattle.std.proofs.Common.{◌≡◌, drop}
use Rattle.nc_yang_statements.specs.Arguments.{are_of_date}
use Rattle.nc_yang_statements.proofs.argument.are_of_date.Given as goal

abbrev pub invariant-loop-place : goal.invariant-loop-place
invariant-loop-place l = are_of_date 0 l.text ≡ are_of_date l.place (drop l.place l.text)
