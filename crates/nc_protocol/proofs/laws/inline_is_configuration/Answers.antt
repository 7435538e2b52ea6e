use Rattle.nc_protocol.proofs.PayloadLaws as lemmas
use Rattle.nc_protocol.proofs.laws.inline_is_configuration.Goals as goal

pub returns : goal.returns
returns c = lemmas.inline_is_configuration
