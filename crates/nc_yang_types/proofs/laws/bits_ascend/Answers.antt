use Rattle.nc_yang_types.proofs.OrderLemmas as lemmas
use Rattle.nc_yang_types.proofs.laws.bits_ascend.Goals as goal

pub returns : goal.returns
returns c = lemmas.bits_ascend
