-- The parts of a text between slashes, as they are left to be read.
use Rattle.std.specs.Prelude.{◌≡◌, ◌==◌, ℕ, List, [], Option, Some, None}
use Rattle.std.specs.List.{slice_split}
use Rattle.nc_names.specs.Signs.{slash}
use Rattle.nc_schema.specs.PathWords.{up_to}

-- the parts of a path between slashes
abbrev pub parts_of : Option (List ℕ) → List (List ℕ)
parts_of None = []
parts_of (Some text) = slice_split (λ c. c == slash) text

-- what stands before the next slash, and the text after it, where there is one
abbrev pub IsNext : List ℕ → List ℕ → Option (List ℕ) → Type 0
IsNext text part None = (up_to slash text ≡ None) × (text ≡ part)
IsNext text part (Some rest) = up_to slash text ≡ Some (part, rest)
