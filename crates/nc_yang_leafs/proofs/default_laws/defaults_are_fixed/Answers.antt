use Rattle.nc_yang_leafs.proofs.LawLemmas.{are_fixed}
use Rattle.nc_yang_leafs.proofs.default_laws.defaults_are_fixed.Goals as goal

pub returns : goal.returns
returns c = are_fixed
