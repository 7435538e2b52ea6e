use Rattle.nc_print.proofs.RowsBack.{canonical_is_read_as_itself}
use Rattle.nc_print.proofs.laws.canonical_is_read_as_itself.Goals as goal

pub returns : goal.returns
returns c = canonical_is_read_as_itself
