use Rattle.nc_yang.specs.inner.Marked.{AreCounts}
use Rattle.nc_yang.proofs.counts.counts_of.Given as goal

abbrev pub invariant-loop : goal.invariant-loop
invariant-loop l = AreCounts l.schema l.counter l.counts
