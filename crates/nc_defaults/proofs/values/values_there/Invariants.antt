use Rattle.std.proofs.Common.{◌≡◌, ◌≤◌, ◌-◌, ◌++◌, length, map}
use Rattle.std.specs.List.{filter, filter_map}
use Rattle.nc_schema.specs.InUse.{first_value}
use Rattle.nc_schema.specs.Places.{is_of, parts}
use Rattle.nc_defaults.specs.Within.{rows_between}
use Rattle.nc_defaults.proofs.values.values_there.Given as goal

abbrev pub invariant-part : goal.invariant-part
invariant-part l = record {
  after : l.here.from ≤ l.at;
  within : l.at ≤ l.here.to;
  rest : map (λ text. text.now) l.out ++ filter_map (λ part. first_value part.rows) (filter (is_of l.number) (parts (length l.steps) (rows_between l.config l.at l.here.to)))
      ≡ filter_map (λ part. first_value part.rows) (filter (is_of l.number) (parts (length l.steps) (rows_between l.config l.here.from l.here.to)));
}

abbrev pub decreases-part : goal.decreases-part
decreases-part l = l.here.to - l.at
