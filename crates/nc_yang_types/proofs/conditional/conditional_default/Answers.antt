use Rattle.nc_yang_types.proofs.ConditionalLemmas.{default_found, default_step, defaults_all, no_type}
use Rattle.nc_yang_types.proofs.conditional.conditional_default.Goals as goal

pub returns-in_default : goal.returns-in_default
returns-in_default c = λ on are l here.
    no_type c.args.scopes.now c.args.meanings.now c.args.number c.args.statement.now c.requires.statement on are l here (c.in_default.ensures l here)

pub returns-then-found : goal.returns-then-found
returns-then-found c = λ on are l here.
    default_found c.args.scopes.now c.args.meanings.now c.args.number c.args.statement.now c.requires.statement on are l here c.in-Some.of_type
    (c.in-Some.ensures l here) c.as_slice-among.result.now c.as_slice-among.ensures c.loop-part.part-index c.part-item.result c.in_ok-found.found c.fault.result
    c.loop-part-test.true c.part-item.is c.in_ok-found.ensures c.if-found.true c.fault.ensures

pub loop-part-preserved : goal.loop-part-preserved
loop-part-preserved c = λ on are l here.
    default_step c.args.scopes.now c.args.meanings.now c.args.number c.args.statement.now c.requires.statement on are l here c.in-Some.of_type
    (c.in-Some.ensures l here) c.as_slice-among.result.now c.as_slice-among.ensures c.loop-part.part-index c.part-item.result c.in_ok-found.found
    c.loop-part-test.true c.part-item.is c.in_ok-found.ensures c.if-found.false (c.loop-part.invariant on are l here)

pub returns : goal.returns
returns c = λ on are l here.
    defaults_all c.args.scopes.now c.args.meanings.now c.args.number c.args.statement.now c.requires.statement on are l here c.in-Some.of_type
    (c.in-Some.ensures l here) c.as_slice-among.result.now c.as_slice-among.ensures c.loop-part.part-index
    c.loop-part-test.false (c.loop-part.invariant on are l here)
