use Rattle.nc_protocol.proofs.DecodedLemmas.{has_its_names}
use Rattle.nc_protocol.proofs.laws.cause_has_its_names.Goals as goal

pub returns : goal.returns
returns c = has_its_names
