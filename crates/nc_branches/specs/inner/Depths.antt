-- How deep rows stand.
use Rattle.std.specs.Prelude.{◌==◌, ◌≤◌, ℕ, Bool, false, List, length, slice_get}
use Rattle.std.specs.List.{All}
use Rattle.std.specs.Option.{option_map_or}
use Rattle.nc_names.specs.declared.path.Row.{Row}

-- the step at a depth is to a node of that number
abbrev pub is_by : ℕ → ℕ → Row → Bool
is_by depth number row = option_map_or (λ step. step.node == number) (slice_get row.path.steps depth) false

-- no path is shorter
unfoldable pub AreLong : ℕ → List Row → Type 0
AreLong least rows = All (λ row. least ≤ length row.path.steps) rows
