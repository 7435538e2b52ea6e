use Rattle.nc_yang.proofs.ProperSchema.{schemas_are_proper}
use Rattle.nc_yang.proofs.laws.schemas_are_proper.Goals as goal

pub returns : goal.returns
returns c = schemas_are_proper
