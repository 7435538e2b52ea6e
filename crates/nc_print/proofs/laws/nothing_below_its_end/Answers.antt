use Rattle.nc_print.proofs.PartsLemmas.{nothing_below_its_end}
use Rattle.nc_print.proofs.laws.nothing_below_its_end.Goals as goal

pub returns : goal.returns
returns c = nothing_below_its_end
