-- Rows that are cut after the first node with what is below it.
use Rattle.std.specs.Prelude.{◌≡◌, ◌<◌, ◌++◌, length, List}
use Rattle.nc_names.specs.declared.path.Row.{Row}
use Rattle.nc_branches.specs.inner.Shoots.{Shoot, own_rows}
use Rattle.nc_branches.specs.inner.Order.{AreUnder}

-- rows are those of a node, of what is to stand below it, and others
pub record IsCutOff (rows : List Row) (node : Shoot) (inner rest : List Row) : Type 0 where
  pub rows_are : rows ≡ own_rows node.stands node.row ++ inner ++ rest
  pub under : AreUnder node.row.path.steps inner
  pub less : length rest < length rows
