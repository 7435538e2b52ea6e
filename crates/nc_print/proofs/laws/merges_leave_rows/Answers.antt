use Rattle.nc_print.proofs.RowsBack.{merges_leave_rows}
use Rattle.nc_print.proofs.laws.merges_leave_rows.Goals as goal

pub returns : goal.returns
returns c = merges_leave_rows
