use Rattle.std.proofs.Common.{◌≡◌, ◌≤◌, ◌-◌, ◌++◌, map}
use Rattle.std.specs.List.{All}
use Rattle.nc_schema.specs.Places.{parts}
use Rattle.nc_defaults.specs.Within.{rows_between}
use Rattle.nc_defaults.specs.inner.Spans.{IsRun, part_at}
use Rattle.nc_defaults.proofs.spans.runs_of.Given as goal

abbrev pub invariant-part : goal.invariant-part
invariant-part l = record {
  after : l.from ≤ l.at;
  within : l.at ≤ l.to;
  all : map (part_at l.depth l.config) l.runs ++ parts l.depth (rows_between l.config l.at l.to) ≡ parts l.depth (rows_between l.config l.from l.to);
  each : All (IsRun l.depth l.config) l.runs;
}

abbrev pub decreases-part : goal.decreases-part
decreases-part l = l.to - l.at
