use Rattle.nc_model.proofs.GoodLemmas as lemmas
use Rattle.nc_model.proofs.laws.good_stays.Goals as goal

pub returns : goal.returns
returns c = lemmas.good_stays
