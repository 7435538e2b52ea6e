use Rattle.std.proofs.Common.{◌≡◌, take}
use Rattle.nc_defaults.proofs.spots.places_sought.Given as goal

abbrev pub invariant-loop-step : goal.invariant-loop-step
invariant-loop-step l = l.own ≡ take l.step-index l.steps
