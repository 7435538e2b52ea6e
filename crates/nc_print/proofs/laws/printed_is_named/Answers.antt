use Rattle.nc_print.proofs.ReadBack.{printed_is_named}
use Rattle.nc_print.proofs.laws.printed_is_named.Goals as goal

pub returns : goal.returns
returns c = printed_is_named
