use Rattle.std.proofs.Common.{◌∙◌, ap, subst, sym}
use Rattle.std.specs.List.{filter}
use Rattle.nc_yang_order.specs.Orders.{Answers, is_within}
use Rattle.nc_yang_scopes.specs.Orders.{IsOrder}
use Rattle.nc_yang_scopes.specs.References.{graph_of}
use Rattle.nc_yang_scopes.specs.inner.Links.{is_marked}
use Rattle.nc_yang_scopes.proofs.Arranging.{circle_is, circle_there, order_is, within_graph}
use Rattle.nc_yang_scopes.proofs.arrange.found.Goals as goal

pub targets_first-requires-clause-within : goal.targets_first-requires-clause-within
targets_first-requires-clause-within c =
    ap is_within (c.as_slice.ensures ∙ c.in_ok-graph.ensures)
    ∙ within_graph c.args.scopes.now c.args.sort c.args.marks.now c.requires.marks c.args.links.now c.requires.links

pub returns-in-Order : goal.returns-in-Order
returns-in-Order c =
    let found = subst (λ g. Answers g c.in_ok-order.field-0) (c.as_slice.ensures ∙ c.in_ok-graph.ensures) c.in_ok-order.ensures in
    let order = subst (Answers (graph_of c.args.links.now)) c.in-Order.is found in
    subst (IsOrder c.args.scopes.now c.args.sort)
    (sym (c.in_ok-kept-in-Order.ensures ∙ ap (filter (is_marked c.args.marks.now)) c.as_slice-in-Order.ensures))
    (order_is c.args.scopes.now c.args.sort c.args.marks.now c.requires.marks c.args.links.now c.requires.links c.in-Order.order order)

pub circle-requires : goal.circle-requires
circle-requires c =
    let found = subst (λ g. Answers g c.in_ok-order.field-0) (c.as_slice.ensures ∙ c.in_ok-graph.ensures) c.in_ok-order.ensures in
    let circle = subst (Answers (graph_of c.args.links.now)) c.in-Circle.is found in
    circle_there c.args.scopes.now c.args.sort c.args.marks.now c.requires.marks c.args.links.now c.requires.links c.in-Circle.from c.in-Circle.place circle

pub returns : goal.returns
returns c =
    let found = subst (λ g. Answers g c.in_ok-order.field-0) (c.as_slice.ensures ∙ c.in_ok-graph.ensures) c.in_ok-order.ensures in
    let circle = subst (Answers (graph_of c.args.links.now)) c.in-Circle.is found in
    circle_is c.args.scopes.now c.args.sort c.args.marks.now c.requires.marks c.args.links.now c.requires.links c.in-Circle.from c.in-Circle.place
    circle c.circle.result c.circle.ensures
