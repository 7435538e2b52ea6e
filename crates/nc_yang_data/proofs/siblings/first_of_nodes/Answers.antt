use Rattle.std.proofs.Common.{sym, ◌∙◌, arith}
use Rattle.nc_yang_statements.specs.Rules.{first}
use Rattle.nc_yang_data.specs.Siblings.{nodes_from}
use Rattle.nc_yang_data.proofs.TwinLemmas.{node_passed, node_stops}
use Rattle.nc_yang_data.proofs.siblings.first_of_nodes.Goals as goal

pub loop-number-preserved : goal.loop-number-preserved
loop-number-preserved c =
    let less = c.loop-number-test.true in
    let size = c.len-number-end.ensures in
    node_passed c.args.scopes.now c.args.plan.now.choices c.args.plan.now.nodes c.loop-number.number
    (first (nodes_from c.args.scopes.now c.args.plan.now.choices 0 c.args.plan.now.nodes)) (omega (arith, less, size))
    (λ p at. sym (c.node_twin_at.ensures p at) ∙ c.in-None.is) c.loop-number.invariant

pub returns-in-Some : goal.returns-in-Some
returns-in-Some c =
    let less = c.loop-number-test.true in
    let size = c.len-number-end.ensures in
    node_stops c.args.scopes.now c.args.plan.now.choices c.args.plan.now.nodes c.loop-number.number
    (first (nodes_from c.args.scopes.now c.args.plan.now.choices 0 c.args.plan.now.nodes)) c.in-Some.found
    (omega (arith, less, size)) (λ p at. sym (c.node_twin_at.ensures p at) ∙ c.in-Some.is) c.loop-number.invariant
