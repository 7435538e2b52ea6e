use Rattle.std.proofs.Common.{◌≡◌, List, length, map}
use Rattle.nc_names.specs.declared.path.Row.{Row}
use Rattle.nc_schema.specs.Configuration.{IsDataTree}
use Rattle.nc_record.specs.inner.Given.{spelled_of}
use Rattle.nc_record.specs.inner.Placing.{IsPlaced}
use Rattle.nc_record.proofs.placed.rows_placed.Given as goal

abbrev pub invariant-loop-first : goal.invariant-loop-first
invariant-loop-first l = (rows : List Row) → IsDataTree l.schema rows → l.spelled ≡ map spelled_of rows → IsPlaced rows l.rows l.left

abbrev pub decreases-loop-first : goal.decreases-loop-first
decreases-loop-first l = length l.left
