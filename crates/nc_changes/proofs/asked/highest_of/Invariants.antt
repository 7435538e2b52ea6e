use Rattle.std.proofs.Common.{◌≡◌, ◌++◌, List, take, true}
use Rattle.nc_names.specs.declared.path.Row.{Row}
use Rattle.nc_changes.specs.inner.Asked.{are_below}
use Rattle.nc_changes.specs.inner.Common.{rows_of}
use Rattle.nc_changes.proofs.asked.highest_of.Given as goal

abbrev pub invariant-loop-row : goal.invariant-loop-row
invariant-loop-row l =
    (before : List Row) → are_below l.fn.highest before ≡ true → are_below l.highest (before ++ rows_of (take l.row-index l.rows)) ≡ true
