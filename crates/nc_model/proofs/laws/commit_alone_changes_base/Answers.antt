use Rattle.nc_model.proofs.RunningLemmas as lemmas
use Rattle.nc_model.proofs.laws.commit_alone_changes_base.Goals as goal

pub returns : goal.returns
returns c = lemmas.commit_alone_changes_base
