use Rattle.nc_yang_types.proofs.LawLemmas as lemmas
use Rattle.nc_yang_types.proofs.laws.own_gives.Goals as goal

pub returns : goal.returns
returns c = lemmas.own_gives
