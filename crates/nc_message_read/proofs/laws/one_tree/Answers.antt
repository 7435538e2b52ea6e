use Rattle.nc_message_read.proofs.Exact.{one_tree}
use Rattle.nc_message_read.proofs.laws.one_tree.Goals as goal

pub returns : goal.returns
returns c = one_tree
