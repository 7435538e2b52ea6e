use Rattle.std.proofs.Common.{◌≡◌, ◌≤◌, ◌-◌, length, false}
use Rattle.nc_schema.specs.InUse.{defaults_there}
use Rattle.nc_schema.specs.Places.{parts}
use Rattle.nc_defaults.specs.Within.{place_here, rows_between}
use Rattle.nc_defaults.specs.inner.Runs.{named_from}
use Rattle.nc_defaults.proofs.value.value_in.Given as goal

abbrev pub invariant-part : goal.invariant-part
invariant-part l = record {
  after : l.here.from ≤ l.at;
  within : l.at ≤ l.here.to;
  rest : named_from l.stands l.step (parts (length l.steps) (rows_between l.config l.at l.here.to)) (defaults_there l.schema (place_here l.config l.steps l.here) l.step.node)
      ≡ named_from false l.step (parts (length l.steps) (rows_between l.config l.here.from l.here.to)) (defaults_there l.schema (place_here l.config l.steps l.here) l.step.node);
}

abbrev pub decreases-part : goal.decreases-part
decreases-part l = l.here.to - l.at
