use Rattle.nc_yang_types.proofs.MeaningLemmas.{means_one}
use Rattle.nc_yang_types.proofs.meaning_laws.one_meaning.Goals as goal

pub returns : goal.returns
returns c = means_one
