use Rattle.nc_protocol.proofs.CanonicalLemmas as lemmas
use Rattle.nc_protocol.proofs.laws.edit_keeps_configuration.Goals as goal

pub returns : goal.returns
returns c = lemmas.edit_keeps_configuration
