-- Rows of which no two have one path.
use Rattle.std.specs.Prelude.{◌≢◌, List, [], ◌∷◌}
use Rattle.std.specs.List.{All}
use Rattle.nc_names.specs.declared.path.Row.{Row}

-- no two of these rows have one path
unfoldable pub AreSingle : List Row → Type 0
AreSingle [] = Unit {0}
AreSingle (row ∷ rows) = All (λ other. row.path.steps ≢ other.path.steps) rows × AreSingle rows
