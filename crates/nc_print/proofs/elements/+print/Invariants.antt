use Rattle.std.proofs.Common.{◌≡◌, ◌*◌, ◌+◌, ◌-◌, ◌++◌, length}
use Rattle.std.specs.Prelude.{map}
use Rattle.std.specs.List.{flat_map}
use Rattle.nc_protocol.specs.Printed as printed
use Rattle.nc_print.proofs.elements.+print.Given as goal

abbrev pub decreases-parts_at : goal.decreases-parts_at
decreases-parts_at l = 2 * l.levels

abbrev pub decreases-push_run : goal.decreases-push_run
decreases-push_run l = 2 * l.levels + 1

abbrev pub invariant-parts_at-runs : goal.invariant-parts_at-runs
invariant-parts_at-runs l =
    l.parts ++ flat_map (printed.run_parts l.schema (printed.parts_at l.schema (l.levels - 1) (l.depth + 1)) l.depth)
    (printed.cut (printed.goes_on l.depth) (map (λ row. row.now) l.rest))
    ≡ printed.parts_at l.schema l.levels l.depth (map (λ row. row.now) l.rows)

abbrev pub decreases-parts_at-runs : goal.decreases-parts_at-runs
decreases-parts_at-runs l = length (map (λ row. row.now) l.rest)
