-- How many values there are so far.
use Rattle.std.proofs.Common.{◌≡◌, ◌≤◌, take}
use Rattle.std.specs.Prelude.{count_by, is_some}
use Rattle.nc_paths.proofs.resolve.count_some.Given as goal

abbrev pub invariant-loop-value : goal.invariant-loop-value
invariant-loop-value l = (l.count ≡ count_by is_some (take l.value-index l.values)) × (l.count ≤ l.value-index)
