use Rattle.std.proofs.Common.{arith}
use Rattle.nc_nacm.proofs.Marking.{first_among, kept_among}
use Rattle.nc_nacm.proofs.anchors.rarest.Goals as goal

pub others-init : goal.others-init
others-init c = first_among c.args.first c.args.others.now

pub others-preserved : goal.others-preserved
others-preserved c =
    kept_among c.args.first c.args.others.now c.others.at c.mark_at-other.result c.others.best c.rarer-best.result
    (omega (arith, c.others-test.true, c.len-at-end.ensures)) c.mark_at-other.ensures c.rarer-best.ensures c.others.invariant
