use Rattle.nc_yang_nodes.proofs.NumberLemmas.{defined_there}
use Rattle.nc_yang_nodes.proofs.list.defined_in.Goals as goal

pub returns-in-Some : goal.returns-in-Some
returns-in-Some c = defined_there c.args.scopes.now c.args.text c.in-Some.root c.requires c.in-Some.ensures c.parts_of.result c.parts_of.ensures
