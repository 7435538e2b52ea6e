-- The parts of a text between white space, and the names between slashes, as they are left to be read.
use Rattle.std.specs.Prelude.{ℕ, ◌==◌, List, [], Option, Some, None}
use Rattle.std.specs.List.{slice_split}
use Rattle.nc_names.specs.Signs.{is_white, slash}

-- the parts between white space that are left
abbrev pub parts_of : Option (List ℕ) → List (List ℕ)
parts_of None = []
parts_of (Some text) = slice_split is_white text

-- the names between slashes that are left
abbrev pub names_of : Option (List ℕ) → List (List ℕ)
names_of None = []
names_of (Some text) = slice_split (λ c. c == slash) text
