use Rattle.nc_protocol.proofs.EditRights as lemmas
use Rattle.nc_protocol.proofs.laws.edit_asks.Goals as goal

pub returns : goal.returns
returns c = lemmas.edit_asks
