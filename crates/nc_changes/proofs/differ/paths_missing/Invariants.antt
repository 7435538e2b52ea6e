use Rattle.std.proofs.Common.{◌≡◌, ◌++◌, drop, map}
use Rattle.std.specs.List.{filter}
use Rattle.nc_protocol.specs.Changes.{is_missing, paths_of}
use Rattle.nc_changes.proofs.differ.paths_missing.Given as goal

abbrev pub invariant-loop-row : goal.invariant-loop-row
invariant-loop-row l =
    l.paths ++ paths_of (filter (is_missing l.others) (map (λ row. row.now) (drop l.row-index l.rows)))
    ≡ paths_of (filter (is_missing l.others) (map (λ row. row.now) l.rows))
