use Rattle.std.proofs.Common.{◌≡◌, take, drop}
use Rattle.nc_yang_statements.specs.Statements.{kind}
use Rattle.nc_yang_statements.specs.Rules.{twice, repeated}
use Rattle.nc_yang_statements.proofs.rule.twice.Given as goal

abbrev pub invariant-loop-place : goal.invariant-loop-place
invariant-loop-place l = twice l.statement ≡ repeated (kind l.statement) (take l.place l.among) (drop l.place l.among)
