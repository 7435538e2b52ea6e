use Rattle.nc_yang_types.proofs.LawLemmas as lemmas
use Rattle.nc_yang_types.proofs.laws.narrowed_gives.Goals as goal

pub returns : goal.returns
returns c = lemmas.narrowed_gives
