use Rattle.std.proofs.Common.{sym, ◌∙◌, arith}
use Rattle.nc_yang_statements.specs.Rules.{first}
use Rattle.nc_yang_data.specs.Defaults.{nodes_from}
use Rattle.nc_yang_data.proofs.DefaultLemmas.{node_passed, node_stops}
use Rattle.nc_yang_data.proofs.defaults.first_of_nodes.Goals as goal

pub loop-number-preserved : goal.loop-number-preserved
loop-number-preserved c =
    let less = c.loop-number-test.true in
    let size = c.len-number-end.ensures in
    node_passed c.args.scopes.now c.args.schema.now c.args.plan.now c.loop-number.number
    (first (nodes_from c.args.scopes.now c.args.schema.now c.args.plan.now 0 c.args.plan.now.nodes)) (omega (arith, less, size))
    (sym c.node_fault.ensures ∙ c.in-None.is) c.loop-number.invariant

pub returns-in-Some : goal.returns-in-Some
returns-in-Some c =
    let less = c.loop-number-test.true in
    let size = c.len-number-end.ensures in
    node_stops c.args.scopes.now c.args.schema.now c.args.plan.now c.loop-number.number
    (first (nodes_from c.args.scopes.now c.args.schema.now c.args.plan.now 0 c.args.plan.now.nodes)) c.in-Some.found
    (omega (arith, less, size)) (sym c.node_fault.ensures ∙ c.in-Some.is) c.loop-number.invariant
