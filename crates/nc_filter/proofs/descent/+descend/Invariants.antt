use Rattle.std.proofs.Common.{◌*◌, ◌+◌, ◌-◌, ◌^◌}
use Rattle.nc_filter.proofs.descent.+descend.Given as goal

abbrev pub decreases-pick_groups : goal.decreases-pick_groups
decreases-pick_groups l = 2 * (2 ^ 64 - l.depth)

abbrev pub decreases-pick_wants : goal.decreases-pick_wants
decreases-pick_wants l = 2 * (2 ^ 64 - l.depth) + 1
