use Rattle.std.proofs.Common.{◌≡◌, ◌≤◌, ◌-◌}
use Rattle.std.specs.Prelude.{Some}
use Rattle.std.specs.List.{filter, find}
use Rattle.nc_schema.specs.Places.{is_of, is_same_next, parts}
use Rattle.nc_defaults.specs.Within.{rows_between}
use Rattle.nc_defaults.proofs.parts.find_part.Given as goal

abbrev pub invariant-part : goal.invariant-part
invariant-part l = record {
  after : l.from ≤ l.at;
  within : l.at ≤ l.to;
  rest : find (λ part. is_same_next part.step (Some l.step)) (filter (is_of l.step.node) (parts l.depth (rows_between l.config l.at l.to)))
      ≡ find (λ part. is_same_next part.step (Some l.step)) (filter (is_of l.step.node) (parts l.depth (rows_between l.config l.from l.to)));
}

abbrev pub decreases-part : goal.decreases-part
decreases-part l = l.to - l.at
