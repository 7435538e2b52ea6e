use Rattle.std.proofs.Common.{take}
use Rattle.nc_schema.specs.inner.Index.{IsIndexOf}
use Rattle.nc_schema.proofs.index.Index.of.Given as goal

-- the index is of the nodes so far
abbrev pub invariant-loop-node : goal.invariant-loop-node
invariant-loop-node l = IsIndexOf (take l.node-index l.nodes) l.index
