use Rattle.nc_print.proofs.ReadBack.{container_is_read_back}
use Rattle.nc_print.proofs.laws.container_is_read_back.Goals as goal

pub returns : goal.returns
returns c = container_is_read_back
