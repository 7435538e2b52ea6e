use Rattle.nc_model.proofs.RefusedLemmas as lemmas
use Rattle.nc_model.proofs.laws.refused_changes_nothing.Goals as goal

pub returns : goal.returns
returns c = lemmas.refused_changes_nothing
