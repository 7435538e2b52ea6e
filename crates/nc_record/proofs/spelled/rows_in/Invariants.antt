use Rattle.std.proofs.Common.{◌≡◌, List, length}
use Rattle.std.specs.List.{All, flat_map}
use Rattle.nc_names.specs.declared.path.Row.{Row}
use Rattle.nc_schema.specs.Record.{row_record}
use Rattle.nc_record.specs.inner.Given.{FitsRecord, IsFound}
use Rattle.nc_record.proofs.spelled.rows_in.Given as goal

abbrev pub invariant-loop-rest : goal.invariant-loop-rest
invariant-loop-rest l = (rows : List Row) → All (FitsRecord l.nodes) rows → l.bytes ≡ flat_map row_record rows → IsFound l.nodes rows l.found l.rest

abbrev pub decreases-loop-rest : goal.decreases-loop-rest
decreases-loop-rest l = length l.rest
