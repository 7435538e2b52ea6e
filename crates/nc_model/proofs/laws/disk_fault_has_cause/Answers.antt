use Rattle.nc_model.proofs.DiskLemmas as lemmas
use Rattle.nc_model.proofs.laws.disk_fault_has_cause.Goals as goal

pub returns : goal.returns
returns c = lemmas.disk_fault_has_cause
