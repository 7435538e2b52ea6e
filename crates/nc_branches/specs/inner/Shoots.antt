-- What a node of a tree is seen as.
use Rattle.std.specs.Prelude.{Bool, true, false, List, [], ◌∷◌, ◌++◌}
use Rattle.nc_names.specs.declared.path.Row.{Row}
use Rattle.nc_branches.specs.Branches.{Branches}

-- a node with what is below it: its own row is one of the rows where it stands
pub record Shoot : Type 0 where
  pub row : Row
  pub stands : Bool
  pub below : Branches

-- the row of a node that has one
abbrev pub own_rows : Bool → Row → List Row
own_rows true row = row ∷ []
own_rows false row = []

-- the rows of a node and of what is below it
abbrev pub rows_of : Shoot → List Row
rows_of shoot = own_rows shoot.stands shoot.row ++ shoot.below.rows

-- the rows of siblings
abbrev pub rows_of_all : List Shoot → List Row
rows_of_all [] = []
rows_of_all (shoot ∷ shoots) = rows_of shoot ++ rows_of_all shoots
