use Rattle.nc_yang_leafs.proofs.LawLemmas.{are_canonical}
use Rattle.nc_yang_leafs.proofs.default_laws.defaults_are_canonical.Goals as goal

pub returns : goal.returns
returns c = are_canonical
