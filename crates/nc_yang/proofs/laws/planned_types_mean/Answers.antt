use Rattle.nc_yang.proofs.Planned.{planned_types_mean}
use Rattle.nc_yang.proofs.laws.planned_types_mean.Goals as goal

pub returns : goal.returns
returns c = planned_types_mean
