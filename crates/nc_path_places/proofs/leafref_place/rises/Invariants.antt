-- So many `../` have been read.
use Rattle.std.proofs.Common.{length}
use denote.Shadow.{shadow}
use denote.Text.{Utf8}
use Rattle.nc_path_places.specs.inner.LeafrefPlaces.{AreRises}
use Rattle.nc_path_places.proofs.leafref_place.rises.Given as goal

abbrev pub invariant-loop-rest : goal.invariant-loop-rest
invariant-loop-rest l = record {
  rises : AreRises l.ways l.leaf l.text l.above l.rest;
  utf8 : shadow (Utf8 l.rest);
}

abbrev pub decreases-loop-rest : goal.decreases-loop-rest
decreases-loop-rest l = length l.rest
