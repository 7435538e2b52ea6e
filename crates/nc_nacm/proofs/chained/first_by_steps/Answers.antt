use Rattle.std.proofs.Common.{refl, arith, length}
use Rattle.nc_nacm.specs.inner.Found.{matches_under}
use Rattle.nc_nacm.proofs.Chaining.{rules_long, rules_of, stays_within, steps_end, steps_more}
use Rattle.nc_nacm.proofs.chained.first_by_steps.Goals as goal

pub steps-init : goal.steps-init
steps-init c = (refl, c.requires.within)

pub steps-preserved : goal.steps-preserved
steps-preserved c = (
  steps_more (matches_under c.args.wanted.now.name.now c.args.wanted.now.steps.now c.args.wanted.now.right) c.args.chains.now.marks (rules_of c.args.rules.now)
      c.args.steps.now c.steps.step-index c.step-item.result c.steps.limit c.first_by_step-limit.result _
      c.steps-test.true c.step-item.is c.first_by_step-limit.ensures c.steps.invariant.0,
  stays_within (length c.args.rules.now) c.steps.limit c.first_by_step-limit.result _ c.steps.invariant.1 c.first_by_step-limit.ensures,
)

pub returns : goal.returns
returns c =
    steps_end (matches_under c.args.wanted.now.name.now c.args.wanted.now.steps.now c.args.wanted.now.right) c.args.chains.now.marks (rules_of c.args.rules.now)
    c.args.steps.now c.steps.step-index c.steps.limit _ c.requires.chained.anchored c.steps-test.false (omega (arith, c.steps.invariant.1, rules_long c.args.rules.now)) c.steps.invariant.0
