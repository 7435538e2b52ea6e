use Rattle.std.proofs.Common.{sym, ◌∙◌}
use Rattle.nc_nacm.proofs.Firsts.{found_ends, found_goes_on, found_stops}
use Rattle.nc_nacm.proofs.plain.first_matched.Goals as goal

pub returns-then-is_matched_by : goal.returns-then-is_matched_by
returns-then-is_matched_by g c =
    found_stops (g.A.Asked.matches c.args.asked.now) c.args.rules.now c.loop-rule.rule-index c.rule-item.result _
    c.loop-rule-test.true c.rule-item.is (sym c.is_matched_by.ensures ∙ c.if-is_matched_by.true) c.loop-rule.invariant

pub loop-rule-preserved : goal.loop-rule-preserved
loop-rule-preserved g c =
    found_goes_on (g.A.Asked.matches c.args.asked.now) c.args.rules.now c.loop-rule.rule-index c.rule-item.result _
    c.loop-rule-test.true c.rule-item.is (sym c.is_matched_by.ensures ∙ c.if-is_matched_by.false) c.loop-rule.invariant

pub returns : goal.returns
returns g c =
    found_ends (g.A.Asked.matches c.args.asked.now) c.args.rules.now c.loop-rule.rule-index _ c.loop-rule-test.false c.loop-rule.invariant
