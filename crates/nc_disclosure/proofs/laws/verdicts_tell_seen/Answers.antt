use Rattle.nc_disclosure.proofs.ToldLemmas as lemmas
use Rattle.nc_disclosure.proofs.laws.verdicts_tell_seen.Goals as goal

pub returns : goal.returns
returns c = lemmas.verdicts_tell_seen
