use Rattle.std.proofs.Common.{◌≡◌, ◌++◌, ◌+◌, ◌<◌, ◌^◌, drop, length}
use Rattle.std.specs.List.{filter}
use Rattle.nc_filter.specs.inner.Instances.{is_asked}
use Rattle.nc_filter.proofs.asked.asked_spots.Given as goal

abbrev pub invariant-loop-spot : goal.invariant-loop-spot
invariant-loop-spot l =
    (l.out ++ filter (is_asked l.schema l.depth l.names) (drop l.spot-index l.spots) ≡ filter (is_asked l.schema l.depth l.names) l.spots)
    × (0 < length l.out → l.depth + 1 < 2 ^ 64)
