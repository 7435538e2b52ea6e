use Rattle.std.proofs.Common.{◌-◌, length}
use Rattle.nc_branches.proofs.tree.Tree.+siblings_at.Given as goal

abbrev pub decreases-siblings_at : goal.decreases-siblings_at
decreases-siblings_at l = length l.steps.now - l.depth
