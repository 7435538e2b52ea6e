use Rattle.nc_filter.proofs.AimLemmas.{clear_next}
use Rattle.nc_filter.proofs.entry.are_clear.Goals as goal

pub loop-text-preserved : goal.loop-text-preserved
loop-text-preserved c =
    clear_next c.args.listed.now.schema.now c.args.listed.now.config.now c.args.listed.now.above.now c.args.listed.now.list c.args.texts.now c.loop-text.at c.loop-text.text-index c.text-item.result c.as_str.result.now
    c.in_ok-is_clear_at.field-0 c.in_ok-is_clear_at-2.field-0 c.loop-text.invariant c.loop-text-test.true c.text-item.is c.as_str.ensures c.if-not-branch.false c.in_ok-is_clear_at.ensures
    c.if-not-branch-2.false c.in_ok-is_clear_at-2.ensures
