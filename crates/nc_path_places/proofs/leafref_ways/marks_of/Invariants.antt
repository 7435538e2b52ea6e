-- The data nodes that are left have not been looked at.
use Rattle.std.proofs.Common.{◌≤◌, length}
use Rattle.nc_schema.specs.Children.{HasLowerParents}
use Rattle.nc_path_places.specs.inner.Counted.{reading_of}
use Rattle.nc_path_places.specs.inner.LeafrefNames.{IsMarking}
use Rattle.nc_path_places.proofs.leafref_ways.marks_of.Given as goal

abbrev pub invariant-loop-left : goal.invariant-loop-left
invariant-loop-left l = record {
  marking : IsMarking (reading_of l.names) l.own l.marks l.left;
  within : l.left ≤ length l.names.schema.now.nodes;
  lower : HasLowerParents l.names.schema.now.nodes;
}

abbrev pub decreases-loop-left : goal.decreases-loop-left
decreases-loop-left l = l.left
