use Rattle.std.proofs.Common.{sym, subst, ◌<◌, ◌∙◌}
use Rattle.nc_yang_statements.specs.Rules.{first}
use Rattle.nc_yang_data.specs.Conditions.{all_conditions, conditions_in}
use Rattle.nc_yang_data.proofs.ConditionLemmas.{passed_by, stopped_by}
use Rattle.nc_yang_data.proofs.conditions.first_conditional.Goals as goal

pub loop-number-preserved : goal.loop-number-preserved
loop-number-preserved c =
    passed_by (conditions_in c.args.scopes.now c.args.plan.now) c.args.schema.now.nodes c.loop-number.number
    (first (all_conditions c.args.scopes.now c.args.plan.now c.args.schema.now.nodes))
    (subst (λ n. c.loop-number.number < n) c.nodes-number-end.ensures.number c.loop-number-test.true)
    (sym c.first_in_node.ensures ∙ c.in-None.is) c.loop-number.invariant

pub returns-in-Some : goal.returns-in-Some
returns-in-Some c =
    stopped_by (conditions_in c.args.scopes.now c.args.plan.now) c.args.schema.now.nodes c.loop-number.number
    (first (all_conditions c.args.scopes.now c.args.plan.now c.args.schema.now.nodes)) c.in-Some.found
    (subst (λ n. c.loop-number.number < n) c.nodes-number-end.ensures.number c.loop-number-test.true)
    (sym c.first_in_node.ensures ∙ c.in-Some.is) c.loop-number.invariant
