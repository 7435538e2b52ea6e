use Rattle.nc_schema.proofs.ValidityLemmas as lemmas
use Rattle.nc_schema.proofs.laws.empty_is_valid.Goals as goal

pub returns : goal.returns
returns c = lemmas.empty_is_valid
