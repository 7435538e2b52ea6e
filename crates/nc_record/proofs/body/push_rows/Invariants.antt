use Rattle.std.proofs.Common.{◌≡◌, ◌++◌, map, take}
use Rattle.std.specs.List.{flat_map}
use Rattle.nc_schema.specs.Record.{row_record}
use Rattle.nc_record.specs.Reading.{AreTexts}
use Rattle.nc_record.proofs.body.push_rows.Given as goal

abbrev pub invariant-loop-row : goal.invariant-loop-row
invariant-loop-row l = record {
  written : l.body ≡ l.fn.body ++ flat_map row_record (take l.row-index (map (λ row. row.now) l.rows));
  texts : AreTexts (take l.row-index (map (λ row. row.now) l.rows));
}
