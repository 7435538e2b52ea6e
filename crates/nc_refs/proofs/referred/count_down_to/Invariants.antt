use Rattle.std.proofs.Common.{◌≡◌, ◌++◌, take, drop}
use Rattle.nc_schema.specs.Violations.{down_to}
use Rattle.nc_refs.proofs.referred.count_down_to.Given as goal

abbrev pub invariant-loop-step : goal.invariant-loop-step
invariant-loop-step l = record {
  count : l.count ≡ l.step-index;
  rest : take l.step-index l.steps ++ down_to l.number (drop l.step-index l.steps) ≡ down_to l.number l.steps;
}
