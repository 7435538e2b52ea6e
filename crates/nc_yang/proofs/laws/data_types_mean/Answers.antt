use Rattle.nc_yang.proofs.DataTypes.{data_types_mean}
use Rattle.nc_yang.proofs.laws.data_types_mean.Goals as goal

pub returns : goal.returns
returns c = data_types_mean
