use Rattle.nc_yang_leafs.proofs.LawLemmas.{has_one}
use Rattle.nc_yang_leafs.proofs.default_laws.leaf_has_one_default.Goals as goal

pub returns : goal.returns
returns c = has_one
