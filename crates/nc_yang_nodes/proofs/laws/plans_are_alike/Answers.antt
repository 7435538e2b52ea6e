use Rattle.nc_yang_nodes.proofs.Alike.{plans_alike}
use Rattle.nc_yang_nodes.proofs.laws.plans_are_alike.Goals as goal

pub returns : goal.returns
returns c = plans_alike
