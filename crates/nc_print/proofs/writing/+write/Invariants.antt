use Rattle.std.proofs.Common.{◌≡◌, ◌*◌, ◌+◌, ◌-◌, ◌++◌, length}
use Rattle.std.specs.Prelude.{map}
use Rattle.std.specs.List.{flat_map}
use Rattle.nc_names.specs.Appending.{Extends}
use Rattle.nc_message.specs.Written.{written_part}
use Rattle.nc_protocol.specs.Printed as printed
use Rattle.nc_print.specs.inner.Texts.{parts_text}
use Rattle.nc_print.proofs.writing.+write.Given as goal

abbrev pub decreases-write_parts : goal.decreases-write_parts
decreases-write_parts l = 2 * l.levels

abbrev pub decreases-write_run : goal.decreases-write_run
decreases-write_run l = 2 * l.levels + 1

-- with the text of the elements that are left, the output is what is wanted
abbrev pub invariant-write_parts-runs : goal.invariant-write_parts-runs
invariant-write_parts-runs l =
    (l.out ++ flat_map (written_part l.above)
    (flat_map (printed.run_parts l.schema (printed.parts_at l.schema (l.levels - 1) (l.depth + 1)) l.depth)
    (printed.cut (printed.goes_on l.depth) (map (λ row. row.now) l.rest)))
    ≡ l.fn.out ++ parts_text l.above l.schema l.levels l.depth (map (λ row. row.now) l.rows))
    × Extends l.fn.out l.out

abbrev pub decreases-write_parts-runs : goal.decreases-write_parts-runs
decreases-write_parts-runs l = length (map (λ row. row.now) l.rest)
