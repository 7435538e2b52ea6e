use Rattle.std.proofs.Common.{◌≡◌, ◌+◌, ◌-◌, ◌*◌, ◌++◌, drop, length, map}
use Rattle.std.specs.List.{filter}
use Rattle.nc_schema.specs.Places.{is_of}
use Rattle.nc_defaults.specs.Sought.{sought}
use Rattle.nc_defaults.specs.Within.{AreWithin, place_here, places_in}
use Rattle.nc_defaults.specs.inner.Spans.{part_at}
use Rattle.nc_defaults.specs.inner.Walks.{places_at_all, places_with}
use Rattle.nc_defaults.proofs.spots.+spots.Given as goal

abbrev pub decreases-add_below : goal.decreases-add_below
decreases-add_below l = 4 * (length l.children.now.nodes - l.number) + 2

abbrev pub decreases-add_child : goal.decreases-add_child
decreases-add_child l = 4 * (length l.children.now.nodes - l.number) + 1

abbrev pub decreases-add_parts : goal.decreases-add_parts
decreases-add_parts l = 4 * (length l.children.now.nodes - l.child.0)

abbrev pub decreases-add_place : goal.decreases-add_place
decreases-add_place l = 4 * (length l.children.now.nodes - l.number) + 3

abbrev pub invariant-add_below-loop-child : goal.invariant-add_below-loop-child
invariant-add_below-loop-child l = record {
  places : sought l.marks (places_in l.config l.out ++ places_at_all l.children (place_here l.config l.steps l.here) l.number (drop l.child-index l.numbers))
      ≡ sought l.marks (places_in l.config l.initial.out ++ places_at_all l.children (place_here l.config l.steps l.here) l.number l.numbers);
  within : AreWithin l.config l.initial.out → AreWithin l.config l.out;
}

abbrev pub invariant-add_parts-loop-run : goal.invariant-add_parts-loop-run
invariant-add_parts-loop-run l = record {
  places : sought l.marks
      (places_in l.config l.out
      ++ places_with l.children (place_here l.config l.steps l.here) l.number l.node (filter (is_of l.number) (map (part_at (length l.steps) l.config) (drop l.run-index l.runs))))
      ≡ sought l.marks
      (places_in l.config l.initial.out
      ++ places_with l.children (place_here l.config l.steps l.here) l.number l.node (filter (is_of l.number) (map (part_at (length l.steps) l.config) l.runs)));
  within : AreWithin l.config l.initial.out → AreWithin l.config l.out;
}
