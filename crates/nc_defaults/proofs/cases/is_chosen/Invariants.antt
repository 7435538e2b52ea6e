use Rattle.std.proofs.Common.{◌≡◌, ◌≤◌, ◌-◌}
use Rattle.nc_schema.specs.Places.{is_chosen}
use Rattle.nc_defaults.specs.Within.{place_here}
use Rattle.nc_defaults.proofs.cases.is_chosen.Given as goal

abbrev pub invariant-part : goal.invariant-part
invariant-part l = record {
  after : l.here.from ≤ l.at;
  within : l.at ≤ l.here.to;
  rest : is_chosen l.schema (place_here l.config l.steps (record l.here { from = l.at })) l.case ≡ is_chosen l.schema (place_here l.config l.steps l.here) l.case;
}

abbrev pub decreases-part : goal.decreases-part
decreases-part l = l.here.to - l.at
