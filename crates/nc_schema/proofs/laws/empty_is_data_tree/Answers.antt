use Rattle.nc_schema.proofs.TreeLemmas as lemmas
use Rattle.nc_schema.proofs.laws.empty_is_data_tree.Goals as goal

pub returns : goal.returns
returns c = lemmas.empty_is_data_tree
