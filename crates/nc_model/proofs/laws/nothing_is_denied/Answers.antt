use Rattle.nc_model.proofs.OpenLemmas as lemmas
use Rattle.nc_model.proofs.laws.nothing_is_denied.Goals as goal

pub returns : goal.returns
returns c = lemmas.nothing_is_denied
