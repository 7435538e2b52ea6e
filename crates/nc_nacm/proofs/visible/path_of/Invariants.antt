use Rattle.std.proofs.Common.{◌≡◌, take}
use Rattle.nc_nacm.proofs.visible.path_of.Given as goal

abbrev pub invariant-loop-step : goal.invariant-loop-step
invariant-loop-step l = l.copied ≡ take l.step-index l.steps
