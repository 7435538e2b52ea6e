use Rattle.std.proofs.Common.{◌≡◌, ◌∙◌, ap, arith, subst, sym}
use Rattle.std.specs.Prelude.{false}
use Rattle.nc_yang_statements.specs.Keywords.{is_closed}
use Rattle.nc_yang_statements.specs.Statements.{kind}
use Rattle.nc_yang_scopes.specs.inner.Sharing.{Judges}
use Rattle.nc_yang_scopes.proofs.Sharing.{breaks_here, breaks_inside, closed_keeps, keeps_all, keeps_more}
use Rattle.nc_yang_scopes.proofs.space.+check.Goals as goal

pub returns-then-is_closed : goal.returns-then-is_closed
returns-then-is_closed t c = closed_keeps c.args.statement.now (sym (c.if-is_closed.ensures ∙ ap is_closed c.kind.ensures))

pub returns-in-Some : goal.returns-in-Some
returns-in-Some t c =
    let opened : is_closed (kind c.args.statement.now) ≡ false = sym (c.if-is_closed.ensures ∙ ap is_closed c.kind.ensures) in
    breaks_here c.args.statement.now opened c.in-Some.fault (sym c.in-Some.is ∙ c.in_ok-fault.ensures)

pub returns-in-Some-2 : goal.returns-in-Some-2
returns-in-Some-2 t c =
    let opened : is_closed (kind c.args.statement.now) ≡ false = sym (c.if-is_closed.ensures ∙ ap is_closed c.kind.ensures) in
    breaks_inside c.args.statement.now opened c.as_slice-among.result.now c.as_slice-among.ensures c.loop-below.below-index c.below-item.result
    c.in-Some-2.fault (omega arith) c.below-item.is (subst (Judges c.below-item.result) c.in-Some-2.is c.in_ok-fault-2.ensures)

pub loop-below-preserved : goal.loop-below-preserved
loop-below-preserved t c =
    let opened : is_closed (kind c.args.statement.now) ≡ false = sym (c.if-is_closed.ensures ∙ ap is_closed c.kind.ensures) in
    keeps_more c.args.statement.now opened c.as_slice-among.result.now c.as_slice-among.ensures c.loop-below.below-index c.below-item.result
    (omega arith) c.below-item.is (subst (Judges c.below-item.result) c.in_default-2.is c.in_ok-fault-2.ensures) c.loop-below.invariant

pub returns : goal.returns
returns t c =
    let opened : is_closed (kind c.args.statement.now) ≡ false = sym (c.if-is_closed.ensures ∙ ap is_closed c.kind.ensures) in
    keeps_all c.args.statement.now opened c.as_slice-among.result.now c.as_slice-among.ensures c.loop-below.below-index
    (sym c.in_default.is ∙ c.in_ok-fault.ensures) c.loop-below-test.false c.loop-below.invariant
