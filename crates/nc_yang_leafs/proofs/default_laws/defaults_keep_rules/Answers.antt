use Rattle.nc_yang_leafs.proofs.LawLemmas.{keep_rules}
use Rattle.nc_yang_leafs.proofs.default_laws.defaults_keep_rules.Goals as goal

pub returns : goal.returns
returns c = keep_rules
