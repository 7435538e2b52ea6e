use Rattle.nc_nacm.proofs.Hiding.{copied_more}
use Rattle.nc_nacm.proofs.visible.config_of.Goals as goal

pub loop-row-preserved : goal.loop-row-preserved
loop-row-preserved c =
    copied_more c.args.rows.now c.loop-row.row-index c.row-item.result c.in_ok-copy.field-0 c.loop-row.copied c.push.new.self
    c.loop-row-test.true c.row-item.is c.in_ok-copy.ensures c.loop-row.invariant c.in_ok-push.ensures.ok
