-- The statements before give the names that are known.
use Rattle.nc_yang_types.specs.inner.Known.{NamesKnown}
use Rattle.nc_yang_types.proofs.names.renamed.Given as goal

abbrev pub invariant-loop-statement : goal.invariant-loop-statement
invariant-loop-statement l = NamesKnown l.listed l.below l.statement-index l.names
