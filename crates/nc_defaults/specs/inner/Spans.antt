-- The runs of rows of a place that have one next step, as the code lists them.
use Rattle.std.specs.Prelude.{◌≡◌, ◌≤◌, ◌+◌, ℕ, List, length, map, option_map}
use Rattle.std.specs.List.{All}
use Rattle.nc_names.specs.declared.path.Row.{Row}
use Rattle.nc_schema.specs.Places.{Part, parts}
use Rattle.nc_defaults.specs.Within.{rows_between}
use Rattle.nc_defaults.specs.declared.spans.Run.{Run}
use Rattle.nc_defaults.specs.inner.Runs.{next_at}

-- the part of a place that a run is
abbrev pub part_at : ℕ → List Row → Run → Part
part_at depth rows run = record { step = next_at depth rows run.from; rows = rows_between rows run.from run.to }

-- its data node, and rows that there are
pub record IsRun (depth : ℕ) (rows : List Row) (run : Run) : Type 0 where
  pub node : run.node ≡ option_map (λ step. step.node) (next_at depth rows run.from)
  pub order : run.from + 1 ≤ run.to
  pub end : run.to ≤ length rows

-- all parts of the rows from one number up to another
pub record AreRuns (depth : ℕ) (rows : List Row) (from to : ℕ) (runs : List Run) : Type 0 where
  pub all : map (part_at depth rows) runs ≡ parts depth (rows_between rows from to)
  pub each : All (IsRun depth rows) runs
