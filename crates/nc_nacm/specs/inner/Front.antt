-- The rows of the container `nacm` before all others of a configuration.
use Rattle.std.specs.Prelude.{◌≡◌, ◌<◌, ℕ, false, List, [], Some, slice_get}
use Rattle.nc_names.specs.declared.path.Row.{Row}
use Rattle.nc_names.specs.declared.path.Step.{Step}
use Rattle.nc_schema.specs.Places.{is_same_next}
use Rattle.nc_schema.specs.Tables.{Tables}
use Rattle.nc_schema.specs.declared.node.Node.{Node}
use Rattle.nc_defaults.specs.inner.Runs.{next_at}
use Rattle.nc_model.specs.Nodes.{nacm}

-- the step to the container
abbrev pub nacm_step : Step
nacm_step = record { node = nacm; keys = [] }

-- the first so many rows are at or below it, and the next is not
pub record IsFront (rows : List Row) (count : ℕ) : Type 0 where
  pub some : 0 < count
  pub all : (at : ℕ) → at < count → next_at 0 rows at ≡ Some nacm_step
  pub ends : is_same_next (Some nacm_step) (next_at 0 rows count) ≡ false

-- it is of no case
abbrev pub IsOfNoCase : Tables → Type 0
IsOfNoCase tables = (node : Node) → slice_get tables.nodes nacm ≡ Some node → node.cases ≡ []
