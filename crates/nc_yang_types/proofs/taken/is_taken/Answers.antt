use Rattle.nc_yang_types.proofs.TakenLemmas.{told_taken, untold_none, untold_past}
use Rattle.nc_yang_types.proofs.taken.is_taken.Goals as goal

pub returns-in_default : goal.returns-in_default
returns-in_default c = untold_none c.args.scopes.now c.args.meanings.now c.args.defaults.now c.args.of_type c.in_default.ensures

pub returns-in_default-statement : goal.returns-in_default-statement
returns-in_default-statement c =
    untold_past c.args.scopes.now c.args.meanings.now c.args.defaults.now c.args.of_type c.in-Some.default c.in-Some.ensures c.in_default-statement.ensures

pub returns : goal.returns
returns c =
    told_taken c.args.scopes.now c.args.meanings.now c.args.defaults.now c.args.of_type c.in-Some.default c.in-Some.ensures c.in-Some-statement.found.now
    c.in-Some-statement.ensures c.name.result.now c.name.ensures c.takes_at.result c.takes_at.ensures
