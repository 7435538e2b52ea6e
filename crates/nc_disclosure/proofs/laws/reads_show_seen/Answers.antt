use Rattle.nc_disclosure.proofs.ShownLemmas as lemmas
use Rattle.nc_disclosure.proofs.laws.reads_show_seen.Goals as goal

pub returns : goal.returns
returns c = lemmas.reads_show_seen
