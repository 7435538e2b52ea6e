use Rattle.nc_yang.proofs.ProperSchema.{defaults_are_canonical}
use Rattle.nc_yang.proofs.laws.defaults_are_canonical.Goals as goal

pub returns : goal.returns
returns c = defaults_are_canonical
