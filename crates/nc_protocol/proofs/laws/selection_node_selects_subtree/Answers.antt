use Rattle.nc_protocol.proofs.FilterLemmas as lemmas
use Rattle.nc_protocol.proofs.laws.selection_node_selects_subtree.Goals as goal

pub returns : goal.returns
returns c = lemmas.selection_node_selects_subtree
