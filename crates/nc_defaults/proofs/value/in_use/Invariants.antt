use Rattle.std.proofs.Common.{◌≡◌, drop, take}
use Rattle.nc_schema.specs.InUse.{value_from}
use Rattle.nc_schema.specs.Places.{top_place}
use Rattle.nc_defaults.specs.Within.{IsWithin, place_here}
use Rattle.nc_defaults.proofs.value.in_use.Given as goal

abbrev pub invariant-loop-step : goal.invariant-loop-step
invariant-loop-step l = record {
  same : l.at ≡ l.step-index;
  within : IsWithin l.config l.here;
  rest : value_from l.schema (place_here l.config (take l.at l.steps) l.here) (drop l.at l.steps) ≡ value_from l.schema (top_place l.config) l.steps;
}
