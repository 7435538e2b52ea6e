use Rattle.std.proofs.Common.{sym}
use Rattle.nc_record.proofs.Above.{parent_lower}
use Rattle.nc_record.proofs.row.parent_of.Goals as goal

pub returns-in-Some-clause-lower : goal.returns-in-Some-clause-lower
returns-in-Some-clause-lower c = parent_lower c.args.schema.now c.requires c.args.number c.in-Some.node.now (sym c.in-Some.ensures)
