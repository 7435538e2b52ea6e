use Rattle.nc_model.proofs.RunningLemmas as lemmas
use Rattle.nc_model.proofs.laws.running_changes_by_few.Goals as goal

pub returns : goal.returns
returns c = lemmas.running_changes_by_few
