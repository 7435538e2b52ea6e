-- As far by the data nodes so far.
use Rattle.std.proofs.Common.{◌≡◌}
use Rattle.nc_path_places.specs.inner.Counted.{reading_of}
use Rattle.nc_path_places.specs.inner.LeafrefNames.{far_way}
use Rattle.nc_path_places.proofs.leafref_place.far_way.Given as goal

abbrev pub invariant-loop-number : goal.invariant-loop-number
invariant-loop-number l = l.far ≡ far_way (reading_of l.ways.names) l.ways.own.now l.ways.marks l.above l.text l.number
