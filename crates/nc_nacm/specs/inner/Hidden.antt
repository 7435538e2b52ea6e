-- The rows that a user sees, and those beside some nodes.
use Rattle.std.specs.Prelude.{Bool, List, not}
use Rattle.std.specs.List.{filter, list_all, list_any}
use Rattle.nc_names.specs.Same.{is_at_or_below}
use Rattle.nc_names.specs.declared.path.Row.{Row}
use Rattle.nc_names.specs.declared.path.Step.{Step}
use Rattle.nc_model.specs.Sight.{beginnings}

-- the rows of nodes that are read, as each node above them is
abbrev pub rows_read : (List Step → Bool) → List Row → List Row
rows_read reads rows = filter (λ row. list_all reads (beginnings row.path.steps)) rows

-- the rows that stand neither at one of some nodes nor below it
abbrev pub rows_beside : List (List Step) → List Row → List Row
rows_beside nodes rows = filter (λ row. not (list_any (λ node. is_at_or_below node row.path) nodes)) rows
