-- As far by the nodes so far, or by the rest.
use Rattle.std.proofs.Common.{◌≡◌, drop, max}
use Rattle.nc_path_places.specs.inner.Candidates.{farthest}
use Rattle.nc_path_places.specs.inner.Counted.{reading_of}
use Rattle.nc_path_places.proofs.candidates.farthest.Given as goal

abbrev pub invariant-loop-number : goal.invariant-loop-number
invariant-loop-number l =
    max l.far (farthest (reading_of l.names) l.text (drop l.number-index l.among)) ≡ farthest (reading_of l.names) l.text l.among
