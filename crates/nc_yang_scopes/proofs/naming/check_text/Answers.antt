use Rattle.std.proofs.Common.{sym}
use Rattle.nc_yang_scopes.proofs.Misnaming.{text_judged}
use Rattle.nc_yang_scopes.proofs.naming.check_text.Goals as goal

pub returns : goal.returns
returns c =
    text_judged c.args.scopes.now c.in-Some.number c.args.text c.in-Some-statement.statement.now c.check.result (sym c.in-Some-statement.ensures)
    c.in-Some.ensures c.check.ensures
