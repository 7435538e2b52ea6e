-- None so far.
use Rattle.std.proofs.Common.{◌≡◌, drop}
use Rattle.std.specs.List.{list_any}
use Rattle.nc_path_places.specs.inner.Candidates.{fits}
use Rattle.nc_path_places.proofs.candidates.any_fits.Given as goal

abbrev pub invariant-loop-bound : goal.invariant-loop-bound
invariant-loop-bound l = list_any (fits l.node) l.bounds ≡ list_any (fits l.node) (drop l.bound-index l.bounds)
