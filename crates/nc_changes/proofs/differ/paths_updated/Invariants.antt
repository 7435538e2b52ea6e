use Rattle.std.proofs.Common.{◌≡◌, ◌++◌, drop, map}
use Rattle.std.specs.List.{filter}
use Rattle.nc_protocol.specs.Changes.{is_updated, paths_of}
use Rattle.nc_changes.proofs.differ.paths_updated.Given as goal

abbrev pub invariant-loop-row : goal.invariant-loop-row
invariant-loop-row l =
    (l.paths ++ paths_of (filter (is_updated l.schema l.old l.new) (map (λ row. row.now) (drop l.row-index l.rows)))
    ≡ paths_of (filter (is_updated l.schema l.old l.new) (map (λ row. row.now) l.rows)))
    × (l.differing ≡ record { old = l.old; new = l.new })
