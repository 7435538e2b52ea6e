use Rattle.nc_print.proofs.ConfigBack.{printed_is_merges}
use Rattle.nc_print.proofs.laws.printed_is_merges.Goals as goal

pub returns : goal.returns
returns c = printed_is_merges
