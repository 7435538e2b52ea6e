use Rattle.std.proofs.Common.{sym}
use Rattle.nc_record.proofs.NextRow.{last_node_is, no_last_node}
use Rattle.nc_record.proofs.body.node_of.Goals as goal

pub returns-in-Some : goal.returns-in-Some
returns-in-Some c = last_node_is c.args.row.now c.in-Some.step.now (sym c.in-Some.ensures.value)

pub returns-in-None : goal.returns-in-None
returns-in-None c = no_last_node c.args.row.now (sym c.in-None.ensures.value)
