use Rattle.nc_schema.proofs.RecordLemmas as lemmas
use Rattle.nc_schema.proofs.laws.record_size_is_length.Goals as goal

pub returns : goal.returns
returns c = lemmas.size_is
