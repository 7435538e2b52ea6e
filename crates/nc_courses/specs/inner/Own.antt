-- The paths that a request names.
use Rattle.std.specs.Prelude.{Bool, false}
use Rattle.std.specs.Option.{option_map_or}
use Rattle.nc_names.specs.declared.path.Path.{Path}
use Rattle.nc_payload.specs.Names.{is_named}
use Rattle.nc_courses.specs.declared.own.Own.{Own}

-- a path is one of those that the payload names, if there is one
abbrev pub own_names : Own → Path → Bool
own_names own path = option_map_or (λ names. is_named names path) own.names false
