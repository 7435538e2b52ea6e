use Rattle.std.proofs.Common.{◌≡◌, ◌≤◌, ◌+◌, ◌-◌, length}
use Rattle.std.specs.List.{filter}
use Rattle.nc_schema.specs.Places.{is_of, parts}
use Rattle.nc_defaults.specs.Within.{rows_between}
use Rattle.nc_defaults.proofs.parts.count_up_to.Given as goal

abbrev pub invariant-part : goal.invariant-part
invariant-part l = record {
  after : l.from ≤ l.at;
  within : l.at ≤ l.to;
  few : l.count ≤ l.at - l.from;
  rest : l.count + length (filter (is_of l.number) (parts l.depth (rows_between l.config l.at l.to)))
      ≡ length (filter (is_of l.number) (parts l.depth (rows_between l.config l.from l.to)));
}

abbrev pub decreases-part : goal.decreases-part
decreases-part l = l.to - l.at
