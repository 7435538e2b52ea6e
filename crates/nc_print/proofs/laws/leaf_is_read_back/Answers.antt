use Rattle.nc_print.proofs.ReadBack.{leaf_is_read_back}
use Rattle.nc_print.proofs.laws.leaf_is_read_back.Goals as goal

pub returns : goal.returns
returns c = leaf_is_read_back
