-- What follows from the definitions.
use Rattle.nc_path_places.specs.Apart.{HasKeysApart}
use Rattle.nc_schema.specs.Proper.{IsProperSchema}
use Rattle.nc_schema.specs.Tables.{Tables}

-- in a schema that modules define no predicate is of two keys
abbrev pub ProperKeysAreApart : Type 0
ProperKeysAreApart = (tables : Tables) → IsProperSchema tables → HasKeysApart tables
