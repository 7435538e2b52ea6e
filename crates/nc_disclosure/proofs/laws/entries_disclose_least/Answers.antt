use Rattle.nc_disclosure.proofs.EntryLemmas as lemmas
use Rattle.nc_disclosure.proofs.laws.entries_disclose_least.Goals as goal

pub returns : goal.returns
returns c = lemmas.entries_disclose_least
