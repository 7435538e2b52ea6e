use Rattle.std.proofs.Common.{◌≡◌, drop}
use Rattle.nc_yang_statements.specs.Statements.{part}
use Rattle.nc_yang_statements.proofs.statement.part.Given as goal

abbrev pub invariant-loop-statement : goal.invariant-loop-statement
invariant-loop-statement l = part l.keyword l.among ≡ part l.keyword (drop l.statement-index l.among)
