use Rattle.nc_message_read.proofs.Exact.{no_tree_at_fault}
use Rattle.nc_message_read.proofs.laws.no_tree_at_fault.Goals as goal

pub returns : goal.returns
returns c = no_tree_at_fault
