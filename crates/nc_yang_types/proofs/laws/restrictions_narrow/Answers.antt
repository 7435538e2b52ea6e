use Rattle.nc_yang_types.proofs.LawLemmas as lemmas
use Rattle.nc_yang_types.proofs.laws.restrictions_narrow.Goals as goal

pub returns : goal.returns
returns c = lemmas.restrictions_narrow
