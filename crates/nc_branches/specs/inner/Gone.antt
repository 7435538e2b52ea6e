-- Rows that are left where those of other cases go (RFC 7950 7.9).
use Rattle.std.specs.Prelude.{◌≡◌, ◌∷◌, List}
use Rattle.std.specs.List.{filter}
use Rattle.nc_names.specs.declared.path.Row.{Row}
use Rattle.nc_names.specs.declared.path.Step.{Step}
use Rattle.nc_schema.specs.Tables.{Tables}
use Rattle.nc_branches.specs.inner.Order.{IsUnder}
use Rattle.nc_branches.specs.Sides.{stays}

-- only rows are gone that do not stay beside any new row at the steps or below them
unfoldable pub LeavesStaying : Tables → List Step → List Row → List Row → Type 0
LeavesStaying tables steps old new =
    (added : Row) (more : List Row) → IsUnder steps added →
    filter (stays tables steps (added ∷ more)) new ≡ filter (stays tables steps (added ∷ more)) old

-- the first of some rows is at the steps or below them
pub record HasFirst (steps : List Step) (block : List Row) : Type 0 where
  pub added : Row
  pub more : List Row
  pub is : block ≡ added ∷ more
  pub under : IsUnder steps added
