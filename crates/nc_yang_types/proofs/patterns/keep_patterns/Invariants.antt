use Rattle.std.proofs.Common.{◌≡◌, drop}
use Rattle.nc_yang_types.specs.Patterns.{ill_patterns}
use Rattle.nc_yang_types.proofs.patterns.keep_patterns.Given as goal

abbrev pub invariant-loop-statement : goal.invariant-loop-statement
invariant-loop-statement l = ill_patterns l.below ≡ ill_patterns (drop l.statement-index l.below)
