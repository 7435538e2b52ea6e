use Rattle.nc_protocol.proofs.PayloadLemmas as lemmas
use Rattle.nc_protocol.proofs.laws.child_is_element.Goals as goal

pub returns : goal.returns
returns c = lemmas.child_is_element
