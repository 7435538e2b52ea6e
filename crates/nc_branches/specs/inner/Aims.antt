-- What is known of a path and of the rows that are put there.
use Rattle.std.specs.Prelude.{ℕ, List, [], Option, Some, None}
use Rattle.nc_names.specs.declared.path.Step.{Step}
use Rattle.nc_schema.specs.Tables.{Tables}
use Rattle.nc_branches.specs.Orders.{orders_of}
use Rattle.nc_branches.specs.inner.Order.{AreUnder}
use Rattle.nc_branches.specs.inner.Putting.{Aiming, Laying}
use Rattle.nc_branches.specs.inner.Turning.{AreTurned}

-- the orders along the path: those that are listed, or those that follow from the rows before the edit
abbrev pub orders_seen : Tables → List (List (List (List ℕ))) → List Step → Option Laying → List (List (List (List ℕ)))
orders_seen tables listed steps None = listed
orders_seen tables listed steps (Some lay) = orders_of tables lay.whole lay.place [] steps

-- the rows are at the path or below it, and where the orders are not listed the entries stand to it as is said
pub record IsAimed (aim : Aiming) : Type 0 where
  pub under : AreUnder aim.steps aim.block
  pub turned : AreTurned aim
