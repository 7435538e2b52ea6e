use Rattle.std.proofs.Common.{sym, arith}
use Rattle.nc_yang_nodes.proofs.TableLemmas.{child_is}
use Rattle.nc_yang_nodes.proofs.table.child_of.Goals as goal

pub returns-then-place-len : goal.returns-then-place-len
returns-then-place-len c =
    child_is c.args.scopes.now c.args.number c.args.place c.child.result c.in_ok-statement.statement.now (sym c.in_ok-statement.ensures)
    (omega arith) (omega arith) c.child.ensures
