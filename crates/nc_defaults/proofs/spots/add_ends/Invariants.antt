use Rattle.std.proofs.Common.{◌≡◌, ◌++◌, drop, length, map}
use Rattle.std.specs.List.{filter}
use Rattle.nc_schema.specs.Places.{is_of}
use Rattle.nc_defaults.specs.Within.{AreWithin, place_here, places_in}
use Rattle.nc_defaults.specs.inner.Spans.{part_at}
use Rattle.nc_defaults.specs.inner.Walks.{places_with}
use Rattle.nc_defaults.proofs.spots.add_ends.Given as goal

abbrev pub invariant-loop-run : goal.invariant-loop-run
invariant-loop-run l = record {
  places : places_in l.config l.out
      ++ places_with l.children (place_here l.config l.steps l.here) l.number l.node (filter (is_of l.number) (map (part_at (length l.steps) l.config) (drop l.run-index l.runs)))
      ≡ places_in l.config l.fn.out
      ++ places_with l.children (place_here l.config l.steps l.here) l.number l.node (filter (is_of l.number) (map (part_at (length l.steps) l.config) l.runs));
  within : AreWithin l.config l.fn.out → AreWithin l.config l.out;
}
