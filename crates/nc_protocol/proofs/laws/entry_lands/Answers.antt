use Rattle.nc_protocol.proofs.EntryLands as lemmas
use Rattle.nc_protocol.proofs.laws.entry_lands.Goals as goal

pub returns : goal.returns
returns c = lemmas.entry_lands
