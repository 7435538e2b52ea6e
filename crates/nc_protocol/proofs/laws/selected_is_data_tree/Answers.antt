use Rattle.nc_protocol.proofs.FilterLemmas as lemmas
use Rattle.nc_protocol.proofs.laws.selected_is_data_tree.Goals as goal

pub returns : goal.returns
returns c = lemmas.selected_is_data_tree
