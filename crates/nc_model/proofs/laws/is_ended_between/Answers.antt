use Rattle.nc_model.proofs.EndLemmas as lemmas
use Rattle.nc_model.proofs.laws.is_ended_between.Goals as goal

pub returns : goal.returns
returns c = lemmas.is_ended_between
