use Rattle.std.proofs.Common.{◌≡◌, ◌+◌, drop}
use Rattle.std.specs.Prelude.{map}
use Rattle.nc_protocol.specs.Printed as printed
use Rattle.nc_print.specs.inner.Runs.{run_length}
use Rattle.nc_print.proofs.runs.count_run.Given as goal

abbrev pub invariant-loop-row : goal.invariant-loop-row
invariant-loop-row l =
    (l.count ≡ l.row-index)
    × (l.count + run_length (printed.goes_on l.depth) l.before (map (λ row. row.now) (drop l.row-index l.more))
    ≡ run_length (printed.goes_on l.depth) l.first (map (λ row. row.now) l.more))
