use Rattle.std.proofs.Common.{arith}
use Rattle.nc_message.proofs.Declaring.{attr_step}
use Rattle.nc_message.proofs.start.push_attr_uses.Goals as goal

pub loop-attr-preserved : goal.loop-attr-preserved
loop-attr-preserved c =
    attr_step c.args.attrs.now c.loop-attr.attr-index c.attr-item.result (omega arith) c.attr-item.is
    c.loop-attr.invariant c.in_ok-push_use.ensures.ok
