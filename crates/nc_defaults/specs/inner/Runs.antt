-- Runs of rows that have one next step.
use Rattle.std.specs.List.{filter, filter_map}
use Rattle.nc_schema.specs.InUse.{first_value, named_value, or_else}
use Rattle.std.specs.Prelude.{ℕ, Bool, List, [], ◌∷◌, Option, slice_get, option_and_then, if◌then◌else◌}
use Rattle.nc_names.specs.declared.path.Row.{Row}
use Rattle.nc_names.specs.declared.path.Step.{Step}
use Rattle.nc_schema.specs.Places.{Part, is_of, is_same_next}

-- the step after so many of the row at that place
abbrev pub next_at : ℕ → List Row → ℕ → Option Step
next_at depth rows at = option_and_then (λ row. slice_get row.path.steps depth) (slice_get rows at)

-- the rows from the front on that have that step after so many
abbrev pub run : ℕ → Option Step → List Row → List Row
run depth step [] = []
run depth step (row ∷ rows) =
    if is_same_next step (slice_get row.path.steps depth) then row ∷ run depth step rows else []

-- the rows after them
abbrev pub past : ℕ → Option Step → List Row → List Row
past depth step [] = []
past depth step (row ∷ rows) =
    if is_same_next step (slice_get row.path.steps depth) then past depth step rows else row ∷ rows

-- the value of the row at that place
abbrev pub value_at : List Row → ℕ → Option (List ℕ)
value_at rows at = option_and_then (λ row. row.value) (slice_get rows at)

-- the value that a step names among those of the parts, or among the defaults where no value stands
abbrev pub named_from : Bool → Step → List Part → List (List ℕ) → Option (List ℕ)
named_from stands step left defaults =
    let values = filter_map (λ part. first_value part.rows) (filter (is_of step.node) left) in
    if stands then named_value step values else named_value step (or_else values defaults)
