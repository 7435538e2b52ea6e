use Rattle.nc_nacm.proofs.Marking.{all_anchors, anchor_more}
use Rattle.nc_nacm.proofs.anchors.anchors_of.Goals as goal

pub loop-rule-preserved : goal.loop-rule-preserved
loop-rule-preserved c =
    anchor_more c.loop-rule.anchors c.push.new.self c.args.rules.now c.loop-rule.rule-index c.rule-item.result c.in_ok-anchor.anchor
    c.loop-rule-test.true c.rule-item.is c.in_ok-push.ensures.ok c.in_ok-anchor.ensures c.loop-rule.invariant

pub returns : goal.returns
returns c = all_anchors c.loop-rule.anchors c.args.rules.now c.loop-rule.rule-index c.loop-rule-test.false c.loop-rule.invariant
