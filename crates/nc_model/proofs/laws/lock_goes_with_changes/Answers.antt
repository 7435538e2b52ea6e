use Rattle.nc_model.proofs.LockLemmas as lemmas
use Rattle.nc_model.proofs.laws.lock_goes_with_changes.Goals as goal

pub returns : goal.returns
returns c = lemmas.lock_goes_with_changes
