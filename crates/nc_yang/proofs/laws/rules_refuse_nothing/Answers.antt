use Rattle.nc_yang.proofs.Reasons.{never_refused}
use Rattle.nc_yang.proofs.laws.rules_refuse_nothing.Goals as goal

pub returns : goal.returns
returns c = never_refused
