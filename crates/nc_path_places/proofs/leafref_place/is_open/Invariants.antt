-- A path goes on from there exactly if it goes on from here.
use Rattle.nc_path_places.specs.inner.Counted.{reading_of}
use Rattle.nc_path_places.specs.inner.LeafrefNames.{place_of}
use Rattle.nc_path_places.specs.inner.Leafrefs.{IsOpen}
use Rattle.nc_path_places.proofs.leafref_place.is_open.Given as goal

abbrev pub invariant-loop-here : goal.invariant-loop-here
invariant-loop-here l = record {
  up : IsOpen (reading_of l.ways.names) l.ways.own.now l.here → IsOpen (reading_of l.ways.names) l.ways.own.now l.fn.above;
  back : IsOpen (reading_of l.ways.names) l.ways.own.now l.fn.above → IsOpen (reading_of l.ways.names) l.ways.own.now l.here;
}

abbrev pub decreases-loop-here : goal.decreases-loop-here
decreases-loop-here l = place_of l.here
