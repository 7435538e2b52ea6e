use Rattle.std.proofs.Common.{◌<◌, ℕ, length, ap, subst, []}
use Rattle.std.specs.Option.{option_map_or}
use Rattle.nc_branches.specs.inner.Order.{depth_of}
use Rattle.nc_branches.specs.inner.Shoots.{rows_of}
use Rattle.nc_branches.proofs.Exchanging.{exchanges_below, exchanges_here, exchanges_itself, exchanges_left, exchanges_right, exchanges_under}
use Rattle.nc_branches.proofs.tree.+with_node.Goals as goal

pub Tree::with_node-returns-in_ok-join-in-Some-2 : goal.Tree::with_node-returns-in_ok-join-in-Some-2
Tree::with_node-returns-in_ok-join-in-Some-2 t c =
    let inner = rw c.in-Some-2.is at c.in_ok-with_node-in-Less.ensures in
    let long : depth_of c.in-Some.fork.now.twig < length c.args.steps.now = subst (λ (n : ℕ). n < length c.args.steps.now) c.depth.ensures c.in-Some-get.ensures.lookup.3.0 in
    exchanges_left c.args.known.now.rows c.args.steps.now c.args.self.now c.in-Some.fork.now (option_map_or rows_of c.args.node.now []) c.in-Some-2.left.rows c.in_ok-join-in-Some-2.field-0.rows
    c.in-Some.ensures c.if-not-fork.false long inner c.in_ok-join-in-Some-2.ensures

pub Tree::with_node-returns-in_ok-joined-in-Some-3 : goal.Tree::with_node-returns-in_ok-joined-in-Some-3
Tree::with_node-returns-in_ok-joined-in-Some-3 t c =
    let inner = rw c.in-Some-3.is at c.in_ok-with_node-in-Equal.ensures in
    let long : depth_of c.in-Some.fork.now.twig < length c.args.steps.now = subst (λ (n : ℕ). n < length c.args.steps.now) c.depth.ensures c.in-Some-get.ensures.lookup.3.0 in
    exchanges_here c.args.known.now.rows c.args.steps.now c.args.self.now c.in-Some.fork.now (option_map_or rows_of c.args.node.now []) (option_map_or rows_of c.in-Some-3.here []) c.in_ok-joined-in-Some-3.field-0.rows
    c.in-Some.ensures c.if-not-fork.false long inner c.in_ok-joined-in-Some-3.ensures

pub Tree::with_node-returns-in_ok-join-in-Some-4 : goal.Tree::with_node-returns-in_ok-join-in-Some-4
Tree::with_node-returns-in_ok-join-in-Some-4 t c =
    let inner = rw c.in-Some-4.is at c.in_ok-with_node-in-Greater.ensures in
    let long : depth_of c.in-Some.fork.now.twig < length c.args.steps.now = subst (λ (n : ℕ). n < length c.args.steps.now) c.depth.ensures c.in-Some-get.ensures.lookup.3.0 in
    exchanges_right c.args.known.now.rows c.args.steps.now c.args.self.now c.in-Some.fork.now (option_map_or rows_of c.args.node.now []) c.in-Some-4.right.rows c.in_ok-join-in-Some-4.field-0.rows
    c.in-Some.ensures c.if-not-fork.false long inner c.in_ok-join-in-Some-4.ensures

pub Twig::with_node-returns-then-has_own : goal.Twig::with_node-returns-then-has_own
Twig::with_node-returns-then-has_own t c =
    rw c.in_ok-copy.ensures (exchanges_itself c.args.known.now.rows c.args.steps.now c.args.self.now (option_map_or rows_of c.args.node.now [])
    (c.has_own.ensures.path c.if-has_own.true) (c.has_own.ensures.stands c.if-has_own.true) c.has_own.ensures.under)

pub Twig::with_node-with_below-requires : goal.Twig::with_node-with_below-requires
Twig::with_node-with_below-requires t c =
    let below = ap (λ s. s.below.rows) c.self.view_is in
    let inner = rw c.in-Some.is at c.in_ok-with_node.ensures in
    exchanges_under c.args.known.now.rows c.args.steps.now c.args.self.now (option_map_or rows_of c.args.node.now []) c.in-Some.below.rows
    c.leads_to.ensures.under (c.leads_to.ensures.on c.if-not-leads_to.false) c.requires (rw below at inner)

pub Twig::with_node-returns-in_ok-with_below-in-Some : goal.Twig::with_node-returns-in_ok-with_below-in-Some
Twig::with_node-returns-in_ok-with_below-in-Some t c =
    let below = ap (λ s. s.below.rows) c.self.view_is in
    let inner = rw c.in-Some.is at c.in_ok-with_node.ensures in
    rw c.in_ok-with_below-in-Some.ensures (exchanges_below c.args.known.now.rows c.args.steps.now c.args.self.now (option_map_or rows_of c.args.node.now []) c.in-Some.below.rows
    (c.leads_to.ensures.longer c.if-not-leads_to.false) (rw below at inner))
