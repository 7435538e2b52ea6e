use Rattle.std.proofs.Common.{take}
use Rattle.std.specs.List.{All}
use Rattle.nc_schema.specs.Children.{IsChild}
use Rattle.nc_schema.proofs.nodes.first_child.Given as goal

-- no node so far is such a child
abbrev pub invariant-loop-number : goal.invariant-loop-number
invariant-loop-number l = All (λ node. ¬ IsChild l.parent l.name node) (take l.number l.nodes)
