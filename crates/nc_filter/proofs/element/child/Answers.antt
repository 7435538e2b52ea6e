use Rattle.nc_filter.proofs.ElementLemmas.{child_is}
use Rattle.nc_filter.proofs.element.child.Goals as goal

pub returns : goal.returns
returns c = child_is c.args.part.now c.child.result c.child.ensures
