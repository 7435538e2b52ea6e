use Rattle.nc_model.proofs.LockedLemmas as lemmas
use Rattle.nc_model.proofs.laws.locked_is_seen.Goals as goal

pub returns : goal.returns
returns c = lemmas.locked_is_seen
