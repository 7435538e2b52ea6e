-- Whether two texts, names, steps, paths or rows are the same.
use Rattle.std.specs.Prelude.{◌==◌, ◌&&◌, ℕ, Bool, true, false, List, Option, Some, None}
use Rattle.std.specs.Cmp.Lexicographic.{pointwise}
use Rattle.std.specs.List.{starts_with}
use Rattle.nc_names.specs.declared.name.QName.{QName}
use Rattle.nc_names.specs.declared.path.Step.{Step}
use Rattle.nc_names.specs.declared.path.Path.{Path}
use Rattle.nc_names.specs.declared.path.Row.{Row}

-- the same bytes
abbrev pub is_same_text : List ℕ → List ℕ → Bool
is_same_text a b = pointwise ◌==◌ a b

-- the same namespace and the same local name (Namespaces in XML 1.0, 2.1)
abbrev pub is_same_name : QName → QName → Bool
is_same_name a b = is_same_text a.space b.space && is_same_text a.name b.name

-- the same keys in the same order
abbrev pub is_same_keys : List (List ℕ) → List (List ℕ) → Bool
is_same_keys a b = pointwise is_same_text a b

-- the same node and the same keys
abbrev pub is_same_step : Step → Step → Bool
is_same_step a b = a.node == b.node && is_same_keys a.keys b.keys

-- the same steps, so one node of a data tree (RFC 7950 9.13)
abbrev pub is_same_path : List Step → List Step → Bool
is_same_path a b = pointwise is_same_step a b

-- the node of the path is that of these steps, or below it
abbrev pub is_at_or_below : List Step → Path → Bool
is_at_or_below steps path = starts_with is_same_step path.steps steps

-- the same value, or none in both
abbrev pub is_same_value : Option (List ℕ) → Option (List ℕ) → Bool
is_same_value None None = true
is_same_value (Some a) (Some b) = is_same_text a b
is_same_value a b = false

-- the same path with the same value
abbrev pub is_same_row : Row → Row → Bool
is_same_row a b = is_same_path a.path.steps b.path.steps && is_same_value a.value b.value

-- the same rows in the same order
abbrev pub is_same_rows : List Row → List Row → Bool
is_same_rows a b = pointwise is_same_row a b
