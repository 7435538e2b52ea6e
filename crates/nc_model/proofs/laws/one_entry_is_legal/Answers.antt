use Rattle.nc_model.proofs.HistoryLemmas as lemmas
use Rattle.nc_model.proofs.laws.one_entry_is_legal.Goals as goal

pub returns : goal.returns
returns c = lemmas.one_entry_is_legal
