use Rattle.nc_yang.proofs.SameTrees.{same_configurations}
use Rattle.nc_yang.proofs.laws.same_configurations.Goals as goal

pub returns : goal.returns
returns c = same_configurations
