use Rattle.nc_print.proofs.RowsBack.{printed_rows_are_read_back}
use Rattle.nc_print.proofs.laws.printed_rows_are_read_back.Goals as goal

pub returns : goal.returns
returns c = printed_rows_are_read_back
