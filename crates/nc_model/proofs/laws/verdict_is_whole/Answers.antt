use Rattle.nc_model.proofs.WholeCauses.{verdict_is_whole}
use Rattle.nc_model.proofs.laws.verdict_is_whole.Goals as goal

pub returns : goal.returns
returns c = verdict_is_whole
