use Rattle.std.proofs.Common.{sym}
use Rattle.nc_yang_types.proofs.CheckLemmas.{given_beside, given_over}
use Rattle.nc_yang_types.proofs.check.default_fault.Goals as goal

pub returns-then-is_some : goal.returns-then-is_some
returns-then-is_some c =
    given_beside c.args.scopes.now c.args.meanings.now c.args.number c.in_ok-beside.beside c.in_ok-beside.ensures (sym c.if-is_some.ensures)

pub returns : goal.returns
returns c =
    given_over c.args.scopes.now c.args.meanings.now c.args.number c.in_ok-beside.beside c.taken_over.result c.in_ok-beside.ensures (sym c.if-is_some.ensures)
    c.taken_over.ensures
