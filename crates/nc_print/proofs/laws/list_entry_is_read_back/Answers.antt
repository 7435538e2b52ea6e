use Rattle.nc_print.proofs.EntryBack.{list_entry_is_read_back}
use Rattle.nc_print.proofs.laws.list_entry_is_read_back.Goals as goal

pub returns : goal.returns
returns c = list_entry_is_read_back
