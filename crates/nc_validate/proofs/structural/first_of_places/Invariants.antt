use Rattle.std.proofs.Common.{◌≡◌, drop}
use Rattle.std.specs.List.{flat_map}
use Rattle.nc_defaults.specs.Within.{place_here}
use Rattle.nc_schema.specs.Violations.{violations_at}
use Rattle.nc_validate.specs.inner.First.{first}
use Rattle.nc_validate.proofs.structural.first_of_places.Given as goal

abbrev pub invariant-loop-spot : goal.invariant-loop-spot
invariant-loop-spot l =
    first (flat_map (λ spot. violations_at l.outline.schema.now (place_here l.config spot.steps spot.here)) (drop l.spot-index l.spot-items))
    ≡ first (flat_map (λ spot. violations_at l.outline.schema.now (place_here l.config spot.steps spot.here)) l.spot-items)
