use Rattle.std.proofs.Common.{◌∙◌, subst}
use Rattle.nc_yang_order.specs.Orders.{Answers}
use Rattle.nc_yang_scopes.specs.References.{graph_of}
use Rattle.nc_yang_leafs.specs.inner.Links.{basis_of}
use Rattle.nc_yang_leafs.proofs.CircleLemmas.{circle_is, order_keeps}
use Rattle.nc_yang_leafs.proofs.circle.found.Goals as goal

pub returns-in-Order : goal.returns-in-Order
returns-in-Order c = λ on are linked.
    let found = subst (λ g. Answers g c.in_ok-ordered.ordered) (c.as_slice-2.ensures ∙ c.in_ok-graph.ensures) c.in_ok-ordered.ensures in
    order_keeps (basis_of on c.args.site.now) c.args.links.now linked _ (subst (Answers (graph_of c.args.links.now)) c.in-Order.is found)

pub returns : goal.returns
returns c = λ on are linked.
    let found = subst (λ g. Answers g c.in_ok-ordered.ordered) (c.as_slice-2.ensures ∙ c.in_ok-graph.ensures) c.in_ok-ordered.ensures in
    circle_is (basis_of on c.args.site.now) c.args.links.now linked c.in-Circle.from c.in-Circle.place
    (subst (Answers (graph_of c.args.links.now)) c.in-Circle.is found) c.in_ok-circle-in-Circle.field-0 c.in_ok-circle-in-Circle.ensures
