use Rattle.nc_protocol.proofs.DecodedLemmas.{decoded_properly}
use Rattle.nc_protocol.proofs.laws.decoded_is_proper.Goals as goal

pub returns : goal.returns
returns c = decoded_properly
