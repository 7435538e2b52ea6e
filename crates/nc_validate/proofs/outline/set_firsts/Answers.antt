use Rattle.nc_validate.proofs.ChoiceLemmas.{cases_all, cases_more, cases_start}
use Rattle.nc_validate.proofs.outline.set_firsts.Goals as goal

pub loop-case-init : goal.loop-case-init
loop-case-init c = cases_start c.args.cases.now c.args.number c.args.firsts.now

pub loop-case-preserved : goal.loop-case-preserved
loop-case-preserved c =
    cases_more c.args.cases.now c.loop-case.case-index (record { choice = 0; case = 0 }) c.args.number c.args.firsts.now c.loop-case.firsts c.set_first.new.firsts
    c.loop-case-test.true c.set_first.ensures c.loop-case.invariant

pub returns : goal.returns
returns c = cases_all c.args.cases.now c.loop-case.case-index c.args.number c.args.firsts.now c.loop-case.firsts c.loop-case-test.false c.loop-case.invariant
