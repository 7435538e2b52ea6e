-- The entries that are known to have a row.
use Rattle.std.specs.Prelude.{◌≡◌, ◌++◌, ◌||◌, true, List}
use Rattle.nc_names.specs.Same.{is_same_path}
use Rattle.nc_names.specs.declared.path.Row.{Row}
use Rattle.nc_names.specs.declared.path.Step.{Step}
use Rattle.nc_schema.specs.Standing.{has_row}
use Rattle.nc_branches.specs.Tallies.{IsTallied}
use Rattle.nc_branches.specs.inner.Order.{AreUnder, IsUnder}

-- rows at the paths of others, and at that of one row
pub record Adds (old : List Row) (row : Row) (new : List Row) : Type 0 where
  pub has : (steps : List Step) → has_row new steps ≡ (has_row old steps || is_same_path row.path.steps steps)
  pub from : (path : List Step) → AreUnder path old → IsUnder path row → AreUnder path new

-- rows at the same paths
unfoldable pub Knows : List Row → List Row → Type 0
Knows known rows = (steps : List Step) → has_row known steps ≡ has_row rows steps

-- the entries of some rows are known too
pub record KnowsMore (known more rows : List Row) : Type 0 where
  pub tally : (done : List Row) → IsTallied known done → IsTallied more (done ++ rows)
  pub keeps : (steps : List Step) → has_row known steps ≡ true → has_row more steps ≡ true
