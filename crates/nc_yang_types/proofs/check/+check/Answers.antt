use Rattle.std.proofs.Common.{◌≡◌, ◌∙◌, ap, subst, sym}
use Rattle.std.specs.Prelude.{true, false}
use Rattle.nc_yang_statements.specs.Keywords.{is_closed}
use Rattle.nc_yang_statements.specs.Statements.{kind}
use Rattle.nc_yang_types.specs.inner.Judging.{Judges, JudgesOne}
use Rattle.nc_yang_types.proofs.CheckLemmas.{fault_here, fault_inside, faultless_all, faultless_closed, faultless_step}
use Rattle.nc_yang_types.proofs.check.+check.Goals as goal

pub returns-in-Some : goal.returns-in-Some
returns-in-Some t c = λ on are l here.
    fault_here c.args.scopes.now c.args.meanings.now c.args.number c.args.statement.now c.requires.statement on are l here c.in-Some.fault
    (subst (JudgesOne c.args.scopes.now c.args.meanings.now c.args.number) c.in-Some.is c.in_ok-fault.ensures on are l here)

pub returns-then-is_closed : goal.returns-then-is_closed
returns-then-is_closed t c = λ on are l here fault.
    let shut : is_closed (kind c.args.statement.now) ≡ true = sym (c.if-is_closed.ensures ∙ ap is_closed c.kind.ensures) in
    faultless_closed c.args.scopes.now c.args.meanings.now c.args.number c.args.statement.now c.requires.statement on are l here fault
    (subst (JudgesOne c.args.scopes.now c.args.meanings.now c.args.number) c.in_default.is c.in_ok-fault.ensures on are l here) shut

pub returns-in-Some-2 : goal.returns-in-Some-2
returns-in-Some-2 t c = λ on are l here.
    let opened : is_closed (kind c.args.statement.now) ≡ false = sym (c.if-is_closed.ensures ∙ ap is_closed c.kind.ensures) in
    fault_inside c.args.scopes.now c.args.meanings.now c.args.number c.args.statement.now c.requires.statement on are l here c.as_slice-among.result.now c.as_slice-among.ensures
    c.loop-place.place c.child-child.result c.index-among-place.result c.in-Some-2.fault opened c.loop-place-test.true c.index-among-place.is
    c.child-child.ensures (subst (Judges c.args.scopes.now c.args.meanings.now c.child-child.result) c.in-Some-2.is c.in_ok-fault-2.ensures)

pub loop-place-preserved : goal.loop-place-preserved
loop-place-preserved t c = λ on are l here.
    faultless_step c.args.scopes.now c.args.meanings.now c.args.number c.args.statement.now c.requires.statement on are l here c.loop-place.place c.child-child.result
    c.child-child.ensures (subst (Judges c.args.scopes.now c.args.meanings.now c.child-child.result) c.in_default-2.is c.in_ok-fault-2.ensures) (c.loop-place.invariant on are l here)

pub returns : goal.returns
returns t c = λ on are l here fault.
    faultless_all c.args.scopes.now c.args.meanings.now c.args.number c.args.statement.now c.requires.statement on are l here c.as_slice-among.result.now c.as_slice-among.ensures
    c.loop-place.place fault (subst (JudgesOne c.args.scopes.now c.args.meanings.now c.args.number) c.in_default.is c.in_ok-fault.ensures on are l here) c.loop-place-test.false
    (c.loop-place.invariant on are l here)
