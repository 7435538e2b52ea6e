use Rattle.std.proofs.Common.{◌-◌, ◌≤◌, ◌^◌, min}
use Rattle.nc_schema.specs.Record.{record_size}
use Rattle.nc_record.proofs.body.whole_size.Given as goal

abbrev pub invariant-loop-low : goal.invariant-loop-low
invariant-loop-low l =
    (l.low ≤ min (record_size l.config) (2 ^ 64 - 1)) ×
    (min (record_size l.config) (2 ^ 64 - 1) ≤ l.high) × (l.high ≤ 2 ^ 64 - 1)

abbrev pub decreases-loop-low : goal.decreases-loop-low
decreases-loop-low l = l.high - l.low
