use Rattle.nc_print.proofs.KeysBack.{printed_keys_are_read}
use Rattle.nc_print.proofs.laws.printed_keys_are_read.Goals as goal

pub returns : goal.returns
returns c = printed_keys_are_read
