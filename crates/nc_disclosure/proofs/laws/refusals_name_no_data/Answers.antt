use Rattle.nc_disclosure.proofs.NameLemmas as lemmas
use Rattle.nc_disclosure.proofs.laws.refusals_name_no_data.Goals as goal

pub returns : goal.returns
returns c = lemmas.refusals_name_no_data
