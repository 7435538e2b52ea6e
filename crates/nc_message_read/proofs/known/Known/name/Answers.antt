use Rattle.nc_message_read.proofs.Sets.{ok_as}
use Rattle.nc_message_read.proofs.known.Known.name.Goals as goal

pub returns-in-Some : goal.returns-in-Some
returns-in-Some c = ok_as c.copy.result c.in-Some.known.now c.args.chars.now c.in-Some.ensures c.copy.ensures
