use Rattle.nc_print.proofs.ReadBack.{printed_value_is_read}
use Rattle.nc_print.proofs.laws.printed_value_is_read.Goals as goal

pub returns : goal.returns
returns c = printed_value_is_read
