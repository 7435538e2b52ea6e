use Rattle.std.proofs.Common.{sym, ◌∙◌, arith}
use Rattle.nc_yang_statements.specs.Rules.{first}
use Rattle.nc_yang_data.specs.Siblings.{choices_from}
use Rattle.nc_yang_data.proofs.TwinLemmas.{choice_passed, choice_stops}
use Rattle.nc_yang_data.proofs.siblings.first_of_choices.Goals as goal

pub loop-number-preserved : goal.loop-number-preserved
loop-number-preserved c =
    let less = c.loop-number-test.true in
    let size = c.len-number-end.ensures in
    choice_passed c.args.scopes.now c.args.plan.now.choices c.loop-number.number
    (first (choices_from c.args.scopes.now c.args.plan.now.choices 0 c.args.plan.now.choices)) (omega (arith, less, size))
    (λ p at. sym (c.choice_twin_at.ensures p at) ∙ c.in-None.is) c.loop-number.invariant

pub returns-in-Some : goal.returns-in-Some
returns-in-Some c =
    let less = c.loop-number-test.true in
    let size = c.len-number-end.ensures in
    choice_stops c.args.scopes.now c.args.plan.now.choices c.loop-number.number
    (first (choices_from c.args.scopes.now c.args.plan.now.choices 0 c.args.plan.now.choices)) c.in-Some.found
    (omega (arith, less, size)) (λ p at. sym (c.choice_twin_at.ensures p at) ∙ c.in-Some.is) c.loop-number.invariant
