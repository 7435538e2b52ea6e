-- The numbers before are known.
use Rattle.nc_yang_types.specs.inner.Known.{NumbersKnown}
use Rattle.nc_yang_types.proofs.numbers.misnumbered.Given as goal

abbrev pub invariant-loop-statement : goal.invariant-loop-statement
invariant-loop-statement l = NumbersKnown l.listed l.below l.statement-index l.high l.known
