use Rattle.std.proofs.Common.{length, take, ◌-◌, ◌≤◌}
use Rattle.nc_refs.specs.inner.Trails.{IsReached, IsTrail}
use Rattle.nc_refs.proofs.trail.Trail.reach.Given as goal

abbrev pub invariant-step : goal.invariant-step
invariant-step l = record {
  within : l.at ≤ length l.steps;
  trail : IsTrail l.schema l.config l.trail;
  reached : IsReached l.schema l.config (take l.at l.steps) l.reached;
}

abbrev pub decreases-step : goal.decreases-step
decreases-step l = length l.steps - l.at
