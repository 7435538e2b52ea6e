use Rattle.nc_protocol.proofs.EditedRows as lemmas
use Rattle.nc_protocol.proofs.laws.edit_leaves.Goals as goal

pub returns : goal.returns
returns c = lemmas.edit_leaves
