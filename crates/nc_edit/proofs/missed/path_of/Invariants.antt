use Rattle.std.proofs.Common.{◌≡◌, take}
use Rattle.nc_edit.proofs.missed.path_of.Given as goal

abbrev pub invariant-loop-step : goal.invariant-loop-step
invariant-loop-step l = l.all ≡ take l.step-index l.steps
