use Rattle.std.proofs.Common.{◌≡◌, take}
use Rattle.nc_validate.proofs.faults.copied.Given as goal

abbrev pub invariant-loop-step : goal.invariant-loop-step
invariant-loop-step l = l.out ≡ take l.step-index l.steps
