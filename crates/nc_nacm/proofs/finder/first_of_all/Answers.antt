use Rattle.std.proofs.Common.{sym, ◌∙◌}
use Rattle.nc_nacm.specs.inner.Found.{matches_under}
use Rattle.nc_nacm.proofs.Firsts.{first_ends, first_goes_on, first_stops}
use Rattle.nc_nacm.proofs.finder.first_of_all.Goals as goal

pub returns-then-matches_under : goal.returns-then-matches_under
returns-then-matches_under c =
    first_stops (matches_under c.args.name.now c.args.steps.now c.args.right) c.args.rules.now c.loop-at.at c.index-rules-at.result _
    c.loop-at-test.true c.index-rules-at.is (sym c.matches_under.ensures ∙ c.if-matches_under.true) c.loop-at.invariant

pub loop-at-preserved : goal.loop-at-preserved
loop-at-preserved c =
    first_goes_on (matches_under c.args.name.now c.args.steps.now c.args.right) c.args.rules.now c.loop-at.at c.index-rules-at.result _
    c.loop-at-test.true c.index-rules-at.is (sym c.matches_under.ensures ∙ c.if-matches_under.false) c.loop-at.invariant

pub returns : goal.returns
returns c =
    first_ends (matches_under c.args.name.now c.args.steps.now c.args.right) c.args.rules.now c.loop-at.at _ c.loop-at-test.false c.loop-at.invariant
