use Rattle.nc_yang.proofs.Meaning.{types_mean}
use Rattle.nc_yang.proofs.laws.types_mean.Goals as goal

pub returns : goal.returns
returns c = types_mean
