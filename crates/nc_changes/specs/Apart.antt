-- Rows of which no two have one path.
use Rattle.std.specs.Prelude.{◌≢◌, List, [], ◌∷◌}
use Rattle.std.specs.List.{All}
use Rattle.nc_names.specs.declared.path.Row.{Row}

-- no two rows have one path
abbrev pub AreApart : List Row → Type 0
AreApart [] = Unit {0}
AreApart (row ∷ rows) = All (λ other. row.path.steps ≢ other.path.steps) rows × AreApart rows
