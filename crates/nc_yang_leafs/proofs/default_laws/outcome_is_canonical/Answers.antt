use Rattle.nc_yang_leafs.proofs.OutcomeLemmas.{outcome_canonical}
use Rattle.nc_yang_leafs.proofs.default_laws.outcome_is_canonical.Goals as goal

pub returns : goal.returns
returns c = λ scoping plan typed tables number node is has. outcome_canonical scoping plan typed tables is has number node
