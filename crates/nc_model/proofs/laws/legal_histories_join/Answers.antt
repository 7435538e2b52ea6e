use Rattle.nc_model.proofs.HistoryLemmas as lemmas
use Rattle.nc_model.proofs.laws.legal_histories_join.Goals as goal

pub returns : goal.returns
returns c = lemmas.legal_histories_join
