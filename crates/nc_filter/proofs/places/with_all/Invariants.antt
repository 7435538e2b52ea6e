use Rattle.std.proofs.Common.{◌≡◌, take}
use Rattle.nc_filter.specs.inner.Tables.{AddsPlaces}
use Rattle.nc_filter.proofs.places.with_all.Given as goal

abbrev pub invariant-loop-step : goal.invariant-loop-step
invariant-loop-step l = (l.at ≡ l._step-index) × AddsPlaces l.fn.items l.items (take l.at l.steps)
