use Rattle.std.proofs.Common.{length}
use Rattle.std.proofs.lemmas.Result.{err_from_is_err_and}
use Rattle.nc_yang_data.specs.inner.Cases.{case_test}
use Rattle.nc_yang_data.proofs.NodeLemmas.{fault_here, node_here}
use Rattle.nc_yang_data.proofs.tables.add_node.Goals as goal

pub returns-in_err-leafs : goal.returns-in_err-leafs
returns-in_err-leafs c =
    let p = err_from_is_err_and c.from_residual.result c.from_residual.ensures.1 in
    rw (p.1, p.2)
    (fault_here c.args.scopes.now c.args.drafts.now (case_test c.args.cases.now) c.nodes.result (length c.args.schema.now.nodes) c.nodes.ensures.number
    c.args.planned.now.statement c.in_err-leafs.field-0.0 c.in_err-leafs.ensures)

pub returns : goal.returns
returns c =
    node_here c.args.scopes.now c.args.drafts.now (case_test c.args.cases.now) c.nodes.result (length c.args.schema.now.nodes) c.nodes.ensures.number
    c.args.planned.now c.in_ok-leafs.leafs c.in_ok-node.node c.args.schema.now c.add_node.new.self c.in_ok-leafs.ensures c.in_ok-node.ensures c.in_ok-add_node.ensures.ok
