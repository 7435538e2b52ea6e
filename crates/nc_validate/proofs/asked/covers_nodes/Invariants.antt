use Rattle.std.proofs.Common.{◌<◌, ℕ}
use Rattle.nc_validate.specs.inner.Asked.{CoversNode}
use Rattle.nc_validate.proofs.asked.covers_nodes.Given as goal

abbrev pub invariant-loop-number : goal.invariant-loop-number
invariant-loop-number l = (k : ℕ) → k < l.number → CoversNode l.schema l.marks k
