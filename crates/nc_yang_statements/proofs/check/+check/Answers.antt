use Rattle.std.proofs.Common.{◌≡◌, ◌∙◌, ap, sym, arith}
use Rattle.std.specs.Prelude.{true, false}
use Rattle.nc_yang_statements.specs.Keywords.{is_closed}
use Rattle.nc_yang_statements.specs.Statements.{kind}
use Rattle.nc_yang_statements.proofs.Trees.{faulty_here, faulty_inside, faultless_closed, faultless_step, faultless_all, none_faulty}
use Rattle.nc_yang_statements.proofs.check.+check.Goals as goal

pub returns-in-Some : goal.returns-in-Some
returns-in-Some t c = faulty_here c.args.statement.now c.in-Some.fault c.in-Some.ensures

pub returns-then-is_closed : goal.returns-then-is_closed
returns-then-is_closed t c = λ fault.
    let shut : is_closed (kind c.args.statement.now) ≡ true = sym (c.if-is_closed.ensures ∙ ap is_closed c.kind.ensures) in
    faultless_closed c.args.statement.now fault c.in_default.ensures (λ is_open. cc (shut, is_open))

pub loop-below-init : goal.loop-below-init
loop-below-init t c = λ fault. none_faulty fault

pub returns-in-Some-check : goal.returns-in-Some-check
returns-in-Some-check t c =
    let opened : is_closed (kind c.args.statement.now) ≡ false = sym (c.if-is_closed.ensures ∙ ap is_closed c.kind.ensures) in
    faulty_inside c.as_slice-below-items.result.now c.args.statement.now c.below-item.result c.loop-below.below-index c.in-Some-check.fault
    opened c.as_slice-below-items.ensures (omega arith) c.below-item.is c.in-Some-check.ensures

pub loop-below-preserved : goal.loop-below-preserved
loop-below-preserved t c = λ fault.
    faultless_step c.as_slice-below-items.result.now c.below-item.result c.loop-below.below-index fault (omega arith) c.below-item.is
    (c.loop-below.invariant fault) (c.in_default-check.ensures fault)

pub returns : goal.returns
returns t c = λ fault.
    faultless_all c.as_slice-below-items.result.now c.args.statement.now c.loop-below.below-index fault c.in_default.ensures
    c.as_slice-below-items.ensures c.loop-below-test.false (c.loop-below.invariant fault)
