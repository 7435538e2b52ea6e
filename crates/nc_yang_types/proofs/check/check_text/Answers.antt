use Rattle.std.proofs.Common.{sym}
use Rattle.nc_yang_types.proofs.CheckLemmas.{text_told}
use Rattle.nc_yang_types.proofs.check.check_text.Goals as goal

pub returns : goal.returns
returns c =
    text_told c.args.scopes.now c.args.meanings.now c.in-Some.number c.args.text c.in-Some-statement.statement.now c.check.result (sym c.in-Some-statement.ensures)
    c.in-Some.ensures c.check.ensures
