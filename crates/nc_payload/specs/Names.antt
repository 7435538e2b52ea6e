-- The paths that the payload of a request names, as they are kept.
use Rattle.std.specs.Prelude.{◌||◌, Bool, false}
use Rattle.std.specs.Option.{option_map_or}
use Rattle.nc_names.specs.Same.{is_same_path}
use Rattle.nc_names.specs.declared.path.Path.{Path}
use Rattle.nc_payload.specs.declared.payload_paths.Names.{Names}
use Rattle.nc_payload.specs.inner.Places.{has_place}

-- a path is at or above the place of an element, or that of the payload's fault
unfoldable pub is_named : Names → Path → Bool
is_named names path =
    has_place names.places path || option_map_or (λ at. is_same_path at.steps path.steps) names.fault false
