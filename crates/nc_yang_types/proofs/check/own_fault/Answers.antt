use Rattle.std.proofs.Common.{sym}
use Rattle.nc_yang_types.proofs.CheckLemmas.{one_given, one_plain}
use Rattle.nc_yang_types.proofs.check.own_fault.Goals as goal

pub returns-then-is_some : goal.returns-then-is_some
returns-then-is_some c =
    one_plain c.args.scopes.now c.args.meanings.now c.args.number c.plain_fault-plain.result c.plain_fault-plain.ensures (sym c.if-is_some.ensures)

pub returns : goal.returns
returns c =
    one_given c.args.scopes.now c.args.meanings.now c.args.number c.plain_fault-plain.result c.default_fault.result c.plain_fault-plain.ensures (sym c.if-is_some.ensures)
    c.default_fault.ensures
