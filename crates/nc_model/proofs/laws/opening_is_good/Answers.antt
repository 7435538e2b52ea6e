use Rattle.nc_model.proofs.GoodLemmas as lemmas
use Rattle.nc_model.proofs.laws.opening_is_good.Goals as goal

pub returns : goal.returns
returns c = lemmas.opening_is_good
