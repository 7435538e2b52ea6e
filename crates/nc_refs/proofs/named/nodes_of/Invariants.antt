use Rattle.nc_refs.specs.inner.Named.{AllExist}
use Rattle.nc_refs.proofs.named.nodes_of.Given as goal

abbrev pub invariant-loop-row : goal.invariant-loop-row
invariant-loop-row l = AllExist l.config l.nodes
