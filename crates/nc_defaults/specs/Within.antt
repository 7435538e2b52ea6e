-- A place as the code holds it: where its rows begin and end, and what its steps do not tell.
use Rattle.std.specs.Prelude.{◌≤◌, ℕ, List, drop, take, length, map}
use Rattle.std.specs.List.{All}
use Rattle.nc_names.specs.declared.path.Row.{Row}
use Rattle.nc_names.specs.declared.path.Step.{Step}
use Rattle.nc_schema.specs.Places.{Place}
use Rattle.nc_defaults.specs.declared.here.Here.{Here}
use Rattle.nc_defaults.specs.declared.spots.Spot.{Spot}

-- the rows from one place up to another
abbrev pub rows_between : List Row → ℕ → ℕ → List Row
rows_between rows from to = drop from (take to rows)

-- the place that is meant, with the rows of it
abbrev pub place_here : List Row → List Step → Here → Place
place_here rows steps here = record {
  steps = steps;
  rows = rows_between rows here.from here.to;
  required = here.required;
  defaults = here.defaults;
}

-- its rows are rows of the configuration
abbrev pub IsWithin : List Row → Here → Type 0
IsWithin rows here = (here.from ≤ here.to) × (here.to ≤ length rows)

-- the places that are meant
abbrev pub places_in : List Row → List Spot → List Place
places_in rows spots = map (λ spot. place_here rows spot.steps spot.here) spots

-- each of them is within the rows
abbrev pub AreWithin : List Row → List Spot → Type 0
AreWithin rows spots = All (λ spot. IsWithin rows spot.here) spots
