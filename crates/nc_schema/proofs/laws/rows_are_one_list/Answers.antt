use Rattle.nc_schema.proofs.TreeLemmas as lemmas
use Rattle.nc_schema.proofs.laws.rows_are_one_list.Goals as goal

pub returns : goal.returns
returns c = lemmas.rows_are_one_list
