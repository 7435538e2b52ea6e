use Rattle.nc_model.proofs.HistoryLemmas as lemmas
use Rattle.nc_model.proofs.laws.mine_grows.Goals as goal

pub returns : goal.returns
returns c = lemmas.mine_grows
