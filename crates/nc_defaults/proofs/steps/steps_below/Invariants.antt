use Rattle.std.proofs.Common.{◌≡◌, take}
use Rattle.nc_defaults.proofs.steps.steps_below.Given as goal

abbrev pub invariant-loop-above : goal.invariant-loop-above
invariant-loop-above l = l.below.items ≡ take l.above-index l.steps
