use Rattle.nc_yang.proofs.SameViolations.{same_violations}
use Rattle.nc_yang.proofs.laws.same_violations.Goals as goal

pub returns : goal.returns
returns c = same_violations
