use Rattle.nc_nacm.proofs.Shapes.{shape_more, all_shapes}
use Rattle.nc_nacm.proofs.index.all_shapes.Goals as goal

pub loop-rule-preserved : goal.loop-rule-preserved
loop-rule-preserved c =
    shape_more c.loop-rule.shapes.keys c.in_ok-shapes.shapes.keys c.args.rules.now c.loop-rule.rule-index c.rule-item.result
    c.loop-rule-test.true c.rule-item.is c.in_ok-shapes.ensures c.loop-rule.invariant

pub returns : goal.returns
returns c = all_shapes c.loop-rule.shapes.keys c.args.rules.now c.loop-rule.rule-index c.loop-rule-test.false c.loop-rule.invariant
