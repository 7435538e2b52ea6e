use Rattle.nc_yang_leafs.proofs.ProperLemmas.{law}
use Rattle.nc_yang_leafs.proofs.laws.types_are_proper.Goals as goal

pub returns : goal.returns
returns c = law
