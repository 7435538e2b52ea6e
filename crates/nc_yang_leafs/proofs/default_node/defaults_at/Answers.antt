use Rattle.std.proofs.Common.{sym}
use Rattle.nc_yang_leafs.proofs.NodeLemmas.{found_at}
use Rattle.nc_yang_leafs.proofs.default_node.defaults_at.Goals as goal

pub returns : goal.returns
returns c = λ are d is def means.
    found_at c.args.scopes.now c.args.plan.now c.args.schema.now c.args.number d is def c.in-Some-Some.node.now c.in-Some-Some.planned.now c.of_node.result
    (sym c.in-Some-Some.ensures) (sym c.in-Some-Some.ensures'.value) means (c.of_node.ensures are)
