use Rattle.std.proofs.Common.{◌≡◌, take}
use Rattle.nc_tree.proofs.look.copied_steps.Given as goal

abbrev pub invariant-loop-step : goal.invariant-loop-step
invariant-loop-step l = l.all ≡ take l.step-index l.steps
