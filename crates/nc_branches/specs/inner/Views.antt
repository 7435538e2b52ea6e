-- How a tree is seen, one level after another.
use Rattle.std.specs.Prelude.{◌≡◌, ◌+◌, true, [], ◌++◌, length, Option, Some, None}
use Rattle.std.specs.declared.sync.Arc.{Arc}
use Rattle.std.specs.declared.alloc.Global.{Global}
use Rattle.nc_branches.specs.Branches.{Branches}
use Rattle.nc_branches.specs.Singles.{AreSingle}
use Rattle.nc_branches.specs.Sizes.{size_of}
use Rattle.nc_branches.specs.inner.Shoots.{rows_of}
use Rattle.nc_branches.specs.inner.Depths.{AreLong}
use Rattle.nc_branches.specs.inner.Order.{AreParted}
use Rattle.nc_branches.specs.inner.Steady.{AreNumbered, AreWholeParts}
use Rattle.nc_branches.specs.declared.tree.Fork.{Fork}

-- the rows and the number of nodes
abbrev pub branches_of : Option (Arc Fork Global) → Branches
branches_of None = record { rows = []; cells = 0 }
branches_of (Some fork) = record {
  rows = fork.value.left.rows ++ rows_of fork.value.twig ++ fork.value.right.rows;
  cells = 2 + fork.value.left.cells + fork.value.twig.below.cells + fork.value.right.cells;
}

-- the count is that of the rows, and the bytes are those that they take in a record; none has a shorter path, and what
-- is marked as ordered, single, numbered or whole is
pub record IsSoundFork (fork : Fork) : Type 0 where
  pub count : fork.count ≡ length (fork.left.rows ++ rows_of fork.twig ++ fork.right.rows)
  pub bytes : fork.bytes ≡ size_of fork.left.rows + size_of (rows_of fork.twig) + size_of fork.right.rows
  pub shortest : AreLong fork.shortest (fork.left.rows ++ rows_of fork.twig ++ fork.right.rows)
  pub parted : fork.ordered ≡ true → AreParted fork.twig fork.left.rows fork.right.rows
  pub single : fork.single ≡ true → AreSingle (fork.left.rows ++ rows_of fork.twig ++ fork.right.rows)
  pub numbers : fork.numbered ≡ true → AreNumbered fork.twig fork.left.rows fork.right.rows
  pub wholes : fork.whole ≡ true → AreWholeParts fork.twig fork.left.rows fork.right.rows

-- so it is with the node at the top, where there is one
abbrev pub IsSound : Option (Arc Fork Global) → Type 0
IsSound None = Unit {0}
IsSound (Some fork) = IsSoundFork fork.value
