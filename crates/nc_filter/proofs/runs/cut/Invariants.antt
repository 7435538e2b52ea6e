use Rattle.std.proofs.Common.{List, take}
use Rattle.nc_names.specs.declared.path.Row.{Row}
use Rattle.nc_filter.specs.inner.Runs.{AreKnown, AreRuns}
use Rattle.nc_filter.specs.inner.Tables.{IsIndex}
use Rattle.nc_filter.proofs.runs.cut.Given as goal

abbrev pub invariant-loop-spot : goal.invariant-loop-spot
invariant-loop-spot l =
    AreRuns l.depth (take l.spot-index l.spots) l.runs
    × ((all : List Row) → IsIndex l.basis.index.table all → AreKnown l.basis.schema.now all l.upper l.runs)
