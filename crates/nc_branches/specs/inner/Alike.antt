-- Two nodes whose parts have as many rows each.
use Rattle.std.specs.Prelude.{◌≡◌, length}
use Rattle.nc_branches.specs.declared.tree.Fork.{Fork}

-- so many stand on the left and on the right, and both nodes have a row of their own, or neither
pub record AreAlike (one two : Fork) : Type 0 where
  pub left : length one.left.rows ≡ length two.left.rows
  pub right : length one.right.rows ≡ length two.right.rows
  pub stands : one.twig.stands ≡ two.twig.stands
