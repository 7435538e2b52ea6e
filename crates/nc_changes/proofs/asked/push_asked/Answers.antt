use Rattle.std.proofs.Common.{◌∙◌, sym}
use Rattle.nc_changes.specs.inner.Common.{rows_of}
use Rattle.nc_changes.proofs.AskedLemmas.{all_taken, turn_above, turn_below, turn_passed}
use Rattle.nc_changes.proofs.asked.push_asked.Goals as goal

pub loop-row-preserved-then-not-comes_before : goal.loop-row-preserved-then-not-comes_before
loop-row-preserved-then-not-comes_before c =
    turn_below c.args.schema.now c.args.highest.now c.loop-row.highest.now c.args.rows.now c.args.asked.now c.loop-row.asked c.loop-row.row-index
    c.row-item.result c.as_slice-steps.result.now c.loop-row-test.true c.row-item.is c.as_slice-steps.ensures c.loop-row.invariant
    c.push.new.self c.in_ok-push.ensures.ok (sym c.comes_before.ensures ∙ c.if-not-comes_before.true)

pub loop-row-preserved-then-not-is_ordered : goal.loop-row-preserved-then-not-is_ordered
loop-row-preserved-then-not-is_ordered c =
    turn_passed c.args.schema.now c.args.highest.now c.loop-row.highest.now c.args.rows.now c.args.asked.now c.loop-row.asked c.loop-row.row-index
    c.row-item.result c.as_slice-steps.result.now c.loop-row-test.true c.row-item.is c.as_slice-steps.ensures c.loop-row.invariant
    (sym c.comes_before.ensures ∙ c.if-not-comes_before.false) (sym c.is_ordered.ensures ∙ c.if-not-is_ordered.true)

pub loop-row-preserved : goal.loop-row-preserved
loop-row-preserved c =
    turn_above c.args.schema.now c.args.highest.now c.loop-row.highest.now c.args.rows.now c.args.asked.now c.loop-row.asked c.loop-row.row-index
    c.row-item.result c.as_slice-steps.result.now c.loop-row-test.true c.row-item.is c.as_slice-steps.ensures c.loop-row.invariant
    c.push-in-loop-row.new.self c.in_ok-push-2.ensures.ok (sym c.comes_before.ensures ∙ c.if-not-comes_before.false)

pub returns : goal.returns
returns c =
    all_taken c.args.schema.now c.args.highest.now c.args.rows.now c.loop-row.row-index (rows_of c.args.asked.now) (rows_of c.loop-row.asked)
    c.loop-row.highest.now c.loop-row-test.false c.loop-row.invariant
