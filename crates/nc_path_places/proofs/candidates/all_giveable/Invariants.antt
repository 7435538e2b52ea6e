-- All so far.
use Rattle.std.proofs.Common.{◌≡◌, drop}
use Rattle.std.specs.List.{list_all}
use Rattle.nc_path_places.specs.inner.Candidates.{is_giveable}
use Rattle.nc_path_places.specs.inner.Counted.{reading_of}
use Rattle.nc_path_places.proofs.candidates.all_giveable.Given as goal

abbrev pub invariant-loop-key : goal.invariant-loop-key
invariant-loop-key l =
    list_all (is_giveable (reading_of l.names) l.number) l.left ≡ list_all (is_giveable (reading_of l.names) l.number) (drop l.key-index l.left)
