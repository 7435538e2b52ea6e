use Rattle.nc_protocol.proofs.ContentLemmas.{child_is}
use Rattle.nc_protocol.proofs.content.child_of.Goals as goal

pub returns : goal.returns
returns c = child_is c.args.part.now c.child.result c.child.ensures
