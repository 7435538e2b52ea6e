use Rattle.std.proofs.Common.{◌++◌, ◌∷◌, [], length, sym, ap, ◌∙◌, arith}
use Rattle.std.proofs.lemmas.Result.{err_from_is_err_and}
use Rattle.nc_schema.specs.Tables.{Tables}
use Rattle.nc_yang_statements.specs.Rules.{first}
use Rattle.nc_yang_data.specs.Data.{node_at, nodes_from}
use Rattle.nc_yang_data.specs.Places.{faults_from}
use Rattle.nc_yang_data.specs.inner.Cases.{case_test}
use Rattle.nc_yang_data.proofs.NodeLemmas.{faults_more, faults_stop, next_is, nodes_more}
use Rattle.nc_yang_data.proofs.TextLemmas.{one_longer, others_empty}
use Rattle.nc_yang_data.proofs.tables.add_nodes.Goals as goal

pub loop-planned-preserved : goal.loop-planned-preserved
loop-planned-preserved c =
    let items = c.as_slice-planned-items.result.now in
    let i = c.loop-planned.planned-index in
    let next = next_is items i c.planned-item.result c.loop-planned-test.true c.planned-item.is in
    let count = c.loop-planned.invariant.count in
    let added = c.in_ok-add_node.ensures.0 in
    let grown = ap (λ (t : Tables). t.nodes) added in
    let new = node_at c.args.scopes.now c.args.drafts.now (case_test c.args.cases.now) (length c.loop-planned.schema.nodes) c.planned-item.result in
    let longer = one_longer c.loop-planned.schema.nodes new c.add_node.new.schema.nodes grown in
    record {
      count = omega (arith, longer, count);
      others = others_empty c.loop-planned.schema c.add_node.new.schema (c.loop-planned.schema.nodes ++ new ∷ []) added c.loop-planned.invariant.others;
      left = nodes_more c.args.scopes.now c.args.drafts.now (case_test c.args.cases.now) items i (length c.loop-planned.schema.nodes) c.planned-item.result next count
          (nodes_from c.args.scopes.now c.args.drafts.now (case_test c.args.cases.now) 0 items) c.loop-planned.schema.nodes c.add_node.new.schema.nodes grown c.loop-planned.invariant.left;
      faults = faults_more c.args.scopes.now c.args.drafts.now (case_test c.args.cases.now) items i (length c.loop-planned.schema.nodes) c.planned-item.result next count
          (first (faults_from c.args.scopes.now c.args.drafts.now (case_test c.args.cases.now) 0 items)) c.in_ok-add_node.ensures.1 c.loop-planned.invariant.faults;
    }

pub returns-in_err-add_node : goal.returns-in_err-add_node
returns-in_err-add_node c =
    let items = c.as_slice-planned-items.result.now in
    let i = c.loop-planned.planned-index in
    let next = next_is items i c.planned-item.result c.loop-planned-test.true c.planned-item.is in
    let same = c.as_slice-planned-items.ensures in
    let p = err_from_is_err_and c.from_residual.result c.from_residual.ensures.1 in
    rw (p.1, p.2)
    (faults_stop c.args.scopes.now c.args.drafts.now (case_test c.args.cases.now) items i (length c.loop-planned.schema.nodes) c.planned-item.result next c.loop-planned.invariant.count
    (first (faults_from c.args.scopes.now c.args.drafts.now (case_test c.args.cases.now) 0 c.args.plan.now.nodes)) c.in_err-add_node.field-0.0 c.in_err-add_node.ensures
    (ap (λ ps. first (faults_from c.args.scopes.now c.args.drafts.now (case_test c.args.cases.now) 0 ps)) (sym same) ∙ c.loop-planned.invariant.faults))
