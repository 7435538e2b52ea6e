use Rattle.std.proofs.Common.{◌≡◌, drop, length, max}
use Rattle.std.specs.Prelude.{fold, map}
use Rattle.nc_protocol.specs.Printed as printed
use Rattle.nc_print.proofs.runs.longest.Given as goal

abbrev pub invariant-loop-row : goal.invariant-loop-row
invariant-loop-row l =
    fold (λ most row. max most (length row.path.steps)) l.most (map (λ row. row.now) (drop l.row-index l.rows))
    ≡ printed.longest (map (λ row. row.now) l.rows)
