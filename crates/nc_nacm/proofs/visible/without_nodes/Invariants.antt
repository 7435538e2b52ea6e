use Rattle.std.proofs.Common.{◌≡◌, take, map, Bor, List}
use Rattle.nc_names.specs.declared.path.Step.{Step}
use Rattle.nc_nacm.specs.inner.Hidden.{rows_beside}
use Rattle.nc_nacm.proofs.visible.without_nodes.Given as goal

abbrev pub invariant-loop-node : goal.invariant-loop-node
invariant-loop-node l = l.rest ≡ rows_beside (take l.node-index (map (λ (node : Bor (List Step)). node.now) l.nodes)) l.config
