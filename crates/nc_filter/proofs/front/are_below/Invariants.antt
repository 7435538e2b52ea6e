use Rattle.std.proofs.Common.{◌≡◌, true, take}
use Rattle.std.specs.List.{list_all}
use Rattle.nc_names.specs.Same.{is_at_or_below}
use Rattle.nc_filter.proofs.front.are_below.Given as goal

abbrev pub invariant-loop-row : goal.invariant-loop-row
invariant-loop-row l = list_all (λ row. is_at_or_below l.steps row.now.path) (take l.row-index l.rows) ≡ true
