use Rattle.nc_protocol.proofs.PayloadLaws as lemmas
use Rattle.nc_protocol.proofs.laws.payload_fits.Goals as goal

pub returns : goal.returns
returns c = lemmas.payload_fits
