use Rattle.nc_yang.proofs.One.{one_schema}
use Rattle.nc_yang.proofs.laws.one_schema.Goals as goal

pub returns : goal.returns
returns c = one_schema
