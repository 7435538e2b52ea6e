use Rattle.std.proofs.Common.{◌∙◌, sym}
use Rattle.nc_changes.proofs.AskedLemmas.{gets_highest}
use Rattle.nc_changes.proofs.asked.highest_of.Goals as goal

pub loop-row-preserved : goal.loop-row-preserved
loop-row-preserved c = λ before is.
    gets_highest c.args.rows.now c.loop-row.row-index c.row-item.result c.loop-row.highest.now c.as_slice-steps.result.now c.loop-row-test.true
    c.row-item.is c.as_slice-steps.ensures before (c.loop-row.invariant before is) (sym c.comes_before.ensures ∙ c.if-not-comes_before.false)
