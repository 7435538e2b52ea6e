use Rattle.nc_yang.proofs.Never.{never_both}
use Rattle.nc_yang.proofs.laws.never_both.Goals as goal

pub returns : goal.returns
returns c = never_both
