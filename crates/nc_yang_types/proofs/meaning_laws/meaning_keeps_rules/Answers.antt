use Rattle.nc_yang_types.proofs.MeaningLemmas.{means_keeps}
use Rattle.nc_yang_types.proofs.meaning_laws.meaning_keeps_rules.Goals as goal

pub returns : goal.returns
returns c = means_keeps
