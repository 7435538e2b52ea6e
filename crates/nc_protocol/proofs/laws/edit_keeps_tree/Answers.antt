use Rattle.nc_protocol.proofs.EditLemmas as lemmas
use Rattle.nc_protocol.proofs.laws.edit_keeps_tree.Goals as goal

pub returns : goal.returns
returns c = lemmas.edit_keeps_tree
