-- The entries of a list as the code finds them.
use Rattle.std.specs.Prelude.{ℕ, List, [], Option, option_and_then}
use Rattle.std.specs.List.{last_or}
use Rattle.std.specs.Option.{option_map_or}
use Rattle.std.specs.Prelude.{None}
use Rattle.nc_names.specs.declared.path.Row.{Row}
use Rattle.nc_names.specs.declared.path.Step.{Step}
use Rattle.nc_schema.specs.Places.{Part}
use Rattle.nc_model.specs.Policy.{first_text}
use Rattle.nc_defaults.specs.Within.{rows_between}
use Rattle.nc_defaults.specs.inner.Runs.{next_at}

-- the rows from one to another, as one node of a place
abbrev pub part_between : ℕ → List Row → ℕ → ℕ → Part
part_between depth rows from to = record { step = next_at depth rows from; rows = rows_between rows from to }

-- the name of the entry to which steps lead
abbrev pub name_in : List Step → List ℕ
name_in steps = option_map_or (λ step. option_map_or (λ name. name) (first_text step.keys) []) (last_or None steps) []

-- the first key of the entry to which steps lead, if it has one
abbrev pub first_key : List Step → Option (List ℕ)
first_key steps = option_and_then (λ step. first_text step.keys) (last_or None steps)
