-- Which paths are those of entries of lists and leaf-lists.
use Rattle.std.specs.Prelude.{◌-◌, Bool, true, false, ℕ, List, [], ◌∷◌, length, slice_get}
use Rattle.std.specs.Option.{option_map_or}
use Rattle.nc_names.specs.declared.path.Step.{Step}

-- keys, or a value
abbrev pub are_some : List (List ℕ) → Bool
are_some [] = false
are_some (key ∷ keys) = true

-- a path is that of an entry
abbrev pub is_entry : List Step → Bool
is_entry steps = option_map_or (λ step. are_some step.keys) (slice_get steps (length steps - 1)) false
