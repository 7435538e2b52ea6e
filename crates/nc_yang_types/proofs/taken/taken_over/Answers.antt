use Rattle.std.proofs.Common.{◌∙◌, sym}
use Rattle.nc_yang_types.proofs.TakenLemmas.{taken_found, taken_not, takes_none, takes_untyped}
use Rattle.nc_yang_types.proofs.taken.taken_over.Goals as goal

pub returns-then-not-takes_over : goal.returns-then-not-takes_over
returns-then-not-takes_over c = λ on are l here.
    takes_none c.args.scopes.now c.args.meanings.now c.args.number c.args.statement.now c.requires.statement on are l here (sym c.takes_over.ensures ∙ c.if-not-takes_over.true)

pub returns-in_default : goal.returns-in_default
returns-in_default c = λ on are l here.
    takes_untyped c.args.scopes.now c.args.meanings.now c.args.number c.args.statement.now c.requires.statement on are l here (c.in_default.ensures l here)

pub returns-then-taken : goal.returns-then-taken
returns-then-taken c = λ on are l here.
    taken_found c.args.scopes.now c.args.meanings.now c.args.number c.args.statement.now c.requires.statement on are l here c.in-Some.of_type
    (c.in-Some.ensures l here) c.args.defaults.now c.requires.defaults c.in_ok-taken.taken c.in_ok-taken.ensures c.fault.result
    (sym c.takes_over.ensures ∙ c.if-not-takes_over.false) c.if-taken.true c.fault.ensures

pub returns : goal.returns
returns c = λ on are l here.
    taken_not c.args.scopes.now c.args.meanings.now c.args.number c.args.statement.now c.requires.statement on are l here c.in-Some.of_type
    (c.in-Some.ensures l here) c.args.defaults.now c.requires.defaults c.in_ok-taken.taken c.in_ok-taken.ensures c.if-taken.false
