-- A node at the top of a tree.
use Rattle.std.specs.Prelude.{◌≡◌, List, ◌+◌, ◌++◌, true}
use Rattle.nc_names.specs.declared.path.Row.{Row}
use Rattle.nc_branches.specs.Branches.{Branches}
use Rattle.nc_branches.specs.inner.Shoots.{rows_of}
use Rattle.nc_branches.specs.inner.Order.{AreParted}
use Rattle.nc_branches.specs.inner.Steady.{AreNumbered, AreWholeParts}
use Rattle.nc_branches.specs.declared.tree.Fork.{Fork}

-- the rows of a node with its siblings
abbrev pub rows_of_fork : Fork → List Row
rows_of_fork fork = fork.left.rows ++ rows_of fork.twig ++ fork.right.rows

-- what is marked as ordered is
abbrev pub IsParted : Fork → Type 0
IsParted fork = fork.ordered ≡ true → AreParted fork.twig fork.left.rows fork.right.rows

-- the rows and the nodes of a tree with that node at the top; what is marked as ordered, numbered or whole is
pub record IsForkOf (branches : Branches) (fork : Fork) : Type 0 where
  pub rows : branches.rows ≡ rows_of_fork fork
  pub cells : branches.cells ≡ 2 + fork.left.cells + fork.twig.below.cells + fork.right.cells
  pub parted : IsParted fork
  pub numbers : fork.numbered ≡ true → AreNumbered fork.twig fork.left.rows fork.right.rows
  pub wholes : fork.whole ≡ true → AreWholeParts fork.twig fork.left.rows fork.right.rows
