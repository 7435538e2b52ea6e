use Rattle.nc_protocol.proofs.EditLemmas as lemmas
use Rattle.nc_protocol.proofs.laws.edits_keep_tree.Goals as goal

pub returns : goal.returns
returns c = lemmas.edits_keep_tree
