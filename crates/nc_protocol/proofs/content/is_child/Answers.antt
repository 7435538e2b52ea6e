use Rattle.std.proofs.Common.{sym, ap}
use Rattle.nc_protocol.specs.Elements.{is_child}
use Rattle.nc_protocol.proofs.ContentLemmas.{no_text}
use Rattle.nc_protocol.proofs.content.is_child.Goals as goal

pub returns-in-Some : goal.returns-in-Some
returns-in-Some c = sym (ap is_child c.in-Some.ensures)

pub returns-in-None : goal.returns-in-None
returns-in-None c = no_text c.args.part.now c.in-None.ensures
