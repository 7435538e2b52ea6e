use Rattle.nc_model.proofs.HistoryLemmas as lemmas
use Rattle.nc_model.proofs.laws.histories_join.Goals as goal

pub returns : goal.returns
returns c = lemmas.histories_join
