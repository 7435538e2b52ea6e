use Rattle.nc_yang.proofs.Modules.{modules_are_proper}
use Rattle.nc_yang.proofs.laws.modules_are_proper.Goals as goal

pub returns : goal.returns
returns c = modules_are_proper
