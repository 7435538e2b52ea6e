use Rattle.std.proofs.Common.{◌≡◌, ◌++◌}
use Rattle.nc_nacm.proofs.index.members.Given as goal

abbrev pub invariant-loop-shape : goal.invariant-loop-shape
invariant-loop-shape l = l.members ++ l.shape-iterator ≡ l.fn.shapes.keys
