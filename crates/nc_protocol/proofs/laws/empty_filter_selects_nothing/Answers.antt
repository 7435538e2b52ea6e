use Rattle.nc_protocol.proofs.FilterLemmas as lemmas
use Rattle.nc_protocol.proofs.laws.empty_filter_selects_nothing.Goals as goal

pub returns : goal.returns
returns c = lemmas.empty_filter_selects_nothing
