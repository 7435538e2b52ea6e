use Rattle.nc_model.proofs.DeterminedLemmas as lemmas
use Rattle.nc_model.proofs.laws.history_is_determined.Goals as goal

pub returns : goal.returns
returns c = lemmas.history_is_determined
