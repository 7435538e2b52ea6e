-- One part of a place.
use Rattle.std.specs.Prelude.{ℕ, List}
use Rattle.nc_names.specs.declared.path.Row.{Row}
use Rattle.nc_schema.specs.Places.{Part}
use Rattle.nc_defaults.specs.Within.{rows_between}
use Rattle.nc_defaults.specs.inner.Runs.{next_at}

-- the rows from one to another, as one node of a place
abbrev pub part_from : ℕ → List Row → ℕ → ℕ → Part
part_from depth rows from to = record { step = next_at depth rows from; rows = rows_between rows from to }
