use Rattle.std.proofs.Common.{◌≡◌, ◌∙◌, ap, arith, sym}
use Rattle.std.specs.Prelude.{false}
use Rattle.nc_yang_statements.specs.Keywords.{is_closed}
use Rattle.nc_yang_statements.specs.Statements.{kind}
use Rattle.nc_yang_scopes.proofs.StateLemmas.{breaks_here, breaks_inside, closed_keeps, keeps_all, keeps_more}
use Rattle.nc_yang_scopes.proofs.state.+check.Goals as goal

pub returns-then-is_closed : goal.returns-then-is_closed
returns-then-is_closed t c = closed_keeps c.args.state c.args.statement.now (sym (c.if-is_closed.ensures ∙ ap is_closed c.kind.ensures))

pub returns-in-Some : goal.returns-in-Some
returns-in-Some t c =
    let opened : is_closed (kind c.args.statement.now) ≡ false = sym (c.if-is_closed.ensures ∙ ap is_closed c.kind.ensures) in
    breaks_here c.args.state c.args.statement.now opened c.in-Some.fault c.in-Some.ensures

pub returns-in-Some-check : goal.returns-in-Some-check
returns-in-Some-check t c =
    let opened : is_closed (kind c.args.statement.now) ≡ false = sym (c.if-is_closed.ensures ∙ ap is_closed c.kind.ensures) in
    breaks_inside c.args.state c.args.statement.now opened c.as_slice-among.result.now c.as_slice-among.ensures
    c.is_state_in-within.result c.is_state_in-within.ensures c.loop-below.below-index c.below-item.result
    c.in-Some-check.fault (omega arith) c.below-item.is c.in-Some-check.ensures

pub loop-below-preserved : goal.loop-below-preserved
loop-below-preserved t c =
    let opened : is_closed (kind c.args.statement.now) ≡ false = sym (c.if-is_closed.ensures ∙ ap is_closed c.kind.ensures) in
    keeps_more c.args.state c.args.statement.now opened c.as_slice-among.result.now c.as_slice-among.ensures
    c.is_state_in-within.result c.is_state_in-within.ensures c.loop-below.below-index c.below-item.result
    (omega arith) c.below-item.is c.in_default-check.ensures c.loop-below.invariant

pub returns : goal.returns
returns t c =
    let opened : is_closed (kind c.args.statement.now) ≡ false = sym (c.if-is_closed.ensures ∙ ap is_closed c.kind.ensures) in
    keeps_all c.args.state c.args.statement.now opened c.as_slice-among.result.now c.as_slice-among.ensures
    c.is_state_in-within.result c.is_state_in-within.ensures c.loop-below.below-index
    c.in_default.ensures c.loop-below-test.false c.loop-below.invariant
