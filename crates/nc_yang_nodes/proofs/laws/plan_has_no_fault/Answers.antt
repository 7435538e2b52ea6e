use Rattle.nc_yang_nodes.proofs.Lawful.{no_fault}
use Rattle.nc_yang_nodes.proofs.laws.plan_has_no_fault.Goals as goal

pub returns : goal.returns
returns c = no_fault
