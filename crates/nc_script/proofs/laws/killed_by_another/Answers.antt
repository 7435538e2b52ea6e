use Rattle.nc_script.proofs.Owners as lemmas
use Rattle.nc_script.proofs.laws.killed_by_another.Goals as goal

pub returns : goal.returns
returns c = lemmas.killed_by_another
