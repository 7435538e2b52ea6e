-- None so far.
use Rattle.std.proofs.Common.{◌≡◌, drop}
use Rattle.nc_path_places.specs.inner.Counted.{reading_of}
use Rattle.nc_path_places.specs.inner.Going.{key_named}
use Rattle.nc_path_places.proofs.place.key_named.Given as goal

abbrev pub invariant-loop-key : goal.invariant-loop-key
invariant-loop-key l =
    key_named (reading_of l.names) l.number l.left l.written ≡ key_named (reading_of l.names) l.number (drop l.key-index l.left) l.written
