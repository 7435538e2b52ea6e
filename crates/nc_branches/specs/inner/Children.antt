-- Siblings that are parted by their numbers.
use Rattle.std.specs.Prelude.{◌≡◌, ◌<◌, ℕ, false}
use Rattle.std.specs.List.{list_any}
use Rattle.nc_branches.specs.inner.Depths.{is_by}
use Rattle.nc_branches.specs.inner.Shoots.{rows_of}
use Rattle.nc_branches.specs.declared.tree.Fork.{Fork}

-- no other number is at that depth: on the left, none higher, and on the right none lower
pub record IsNumbered (depth number : ℕ) (fork : Fork) : Type 0 where
  pub left : (other : ℕ) → number < other → list_any (is_by depth other) fork.left.rows ≡ false
  pub lower : (other : ℕ) → other < number → list_any (is_by depth other) (rows_of fork.twig) ≡ false
  pub higher : (other : ℕ) → number < other → list_any (is_by depth other) (rows_of fork.twig) ≡ false
  pub right : (other : ℕ) → other < number → list_any (is_by depth other) fork.right.rows ≡ false
