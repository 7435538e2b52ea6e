use Rattle.nc_print.proofs.ReadBack.{leaf_list_is_read_back}
use Rattle.nc_print.proofs.laws.leaf_list_is_read_back.Goals as goal

pub returns : goal.returns
returns c = leaf_list_is_read_back
