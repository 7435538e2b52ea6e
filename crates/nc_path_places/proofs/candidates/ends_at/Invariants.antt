-- Those among the numbers so far.
use Rattle.std.proofs.Common.{◌≡◌, filter}
use Rattle.nc_path_places.specs.inner.Candidates.{can_end, numbers}
use Rattle.nc_path_places.specs.inner.Counted.{reading_of}
use Rattle.nc_path_places.proofs.candidates.ends_at.Given as goal

abbrev pub invariant-loop-number : goal.invariant-loop-number
invariant-loop-number l = l.out ≡ filter (can_end (reading_of l.names) l.above) (numbers l.number)
