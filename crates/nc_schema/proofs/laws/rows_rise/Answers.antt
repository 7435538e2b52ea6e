use Rattle.nc_schema.proofs.TreeLemmas as lemmas
use Rattle.nc_schema.proofs.laws.rows_rise.Goals as goal

pub returns : goal.returns
returns c = lemmas.rows_rise
