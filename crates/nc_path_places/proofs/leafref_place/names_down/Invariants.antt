-- The names so far have been read.
use Rattle.std.proofs.Common.{◌≡◌, true, length}
use denote.Shadow.{shadow}
use denote.Text.{Utf8}
use Rattle.nc_path_places.specs.inner.Counted.{reading_of}
use Rattle.nc_path_places.specs.inner.Halting.{Leads}
use Rattle.nc_path_places.specs.inner.LeafrefNames.{goes_down}
use Rattle.nc_path_places.specs.inner.Leafrefs.{Down}
use Rattle.nc_path_places.proofs.leafref_place.names_down.Given as goal

abbrev pub invariant-loop-rest : goal.invariant-loop-rest
invariant-loop-rest l = record {
  leads : Leads (Down (reading_of l.ways.names) l.ways.own.now l.fn.first) (Down (reading_of l.ways.names) l.ways.own.now l.above) l.text l.rest;
  goes : goes_down l.ways.marks l.above ≡ true;
  utf8 : shadow (Utf8 l.rest);
}

abbrev pub decreases-loop-rest : goal.decreases-loop-rest
decreases-loop-rest l = length l.rest
