-- What goes on from a node.
use Rattle.std.specs.Prelude.{◌==◌, ℕ, Bool, false, List, [], ◌∷◌, if◌then◌else◌, map}
use Rattle.std.specs.List.{list_any}
use Rattle.std.proofs.Common.{Bor}
use Rattle.nc_names.specs.Same.{is_same_step}
use Rattle.nc_names.specs.declared.path.Row.{Row}
use Rattle.nc_names.specs.declared.path.Step.{Step}

-- a path goes on from a node by a child of that number
abbrev pub goes_by : List Step → ℕ → List Step → Bool
goes_by [] number [] = false
goes_by [] number (step ∷ rest) = step.node == number
goes_by (over ∷ above) number [] = false
goes_by (over ∷ above) number (step ∷ rest) = if is_same_step over step then goes_by above number rest else false

-- a child of that number exists below a node: a row goes on from the node by it
abbrev pub has_node : List Row → List Step → ℕ → Bool
has_node rows above number = list_any (λ row. goes_by above number row.path.steps) rows

-- the keys to which references lead
abbrev pub keys_of : List (Bor (List (List ℕ))) → List (List (List ℕ))
keys_of found = map (λ keys. keys.now) found
