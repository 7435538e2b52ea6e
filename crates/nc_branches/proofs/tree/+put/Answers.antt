use Rattle.std.proofs.Common.{◌≡◌, ◌+◌, ◌<◌, ℕ, length, sym, ap, ◌∙◌, arith, []}
use Rattle.std.specs.Option.{option_map_or}
use Rattle.nc_branches.specs.inner.Shoots.{rows_of}
use Rattle.nc_branches.proofs.Going.{puts_here, puts_kept, puts_last, puts_left, puts_on, puts_right, puts_under}
use Rattle.nc_branches.proofs.Regrowing.{regrown}
use Rattle.nc_branches.proofs.tree.+put.Goals as goal

pub Tree::put-returns-in-Kept : goal.Tree::put-returns-in-Kept
Tree::put-returns-in-Kept t c =
    let inner = rw c.in-Kept.is at c.in_ok-put-in-Left.ensures in
    puts_left c.args.turn c.way-way.result.1 c.args.free c.way-way.result.0 c.args.aim.now c.args.depth c.args.above c.args.self.now c.in-Some.fork.now c.in-Some.fork.now.left.rows c.args.self.now.rows
    c.in-Some.ensures c.in-Left.is (c.way-way.ensures c.args.self.now c.in-Some.ensures) inner c.in-Some.ensures.rows

pub Tree::put-with_left-requires : goal.Tree::put-with_left-requires
Tree::put-with_left-requires t c =
    let inner = rw c.in-Made.is at c.in_ok-put-in-Left.ensures in
    regrown c.way-way.result.1 c.args.free c.args.aim.now c.args.depth c.args.above c.asked-side.result c.args.self.now c.in-Some.fork.now c.in-Some.fork.now.left.rows c.in-Made.left.rows
    c.in-Some.ensures (rw c.steps.ensures.steps at c.asked-side.ensures) c.steps.ensures.under inner

pub Tree::put-returns-in_ok-with_left-in-Made : goal.Tree::put-returns-in_ok-with_left-in-Made
Tree::put-returns-in_ok-with_left-in-Made t c =
    let inner = rw c.in-Made.is at c.in_ok-put-in-Left.ensures in
    puts_left c.args.turn c.way-way.result.1 c.args.free c.way-way.result.0 c.args.aim.now c.args.depth c.args.above c.args.self.now c.in-Some.fork.now c.in-Made.left.rows c.in_ok-with_left-in-Made.field-0.rows
    c.in-Some.ensures c.in-Left.is (c.way-way.ensures c.args.self.now c.in-Some.ensures) inner c.in_ok-with_left-in-Made.ensures

pub Tree::put-returns-in-Kept-2 : goal.Tree::put-returns-in-Kept-2
Tree::put-returns-in-Kept-2 t c =
    let inner = rw c.in-Kept-2.is at c.in_ok-put-in-Here.ensures in
    puts_here c.args.turn c.way-way.result.1 c.args.free c.way-way.result.0 c.args.aim.now c.args.depth c.args.above c.args.self.now c.in-Some.fork.now (rows_of c.in-Some.fork.now.twig) c.args.self.now.rows
    c.in-Some.ensures c.in-Here.is (c.way-way.ensures c.args.self.now c.in-Some.ensures) inner c.in-Some.ensures.rows

pub Tree::put-returns-in_ok-joined-in-Made-2 : goal.Tree::put-returns-in_ok-joined-in-Made-2
Tree::put-returns-in_ok-joined-in-Made-2 t c =
    let inner = rw c.in-Made-2.is at c.in_ok-put-in-Here.ensures in
    puts_here c.args.turn c.way-way.result.1 c.args.free c.way-way.result.0 c.args.aim.now c.args.depth c.args.above c.args.self.now c.in-Some.fork.now (option_map_or rows_of c.in-Made-2.here []) c.in_ok-joined-in-Made-2.field-0.rows
    c.in-Some.ensures c.in-Here.is (c.way-way.ensures c.args.self.now c.in-Some.ensures) inner c.in_ok-joined-in-Made-2.ensures

pub Tree::put-returns-in-Kept-3 : goal.Tree::put-returns-in-Kept-3
Tree::put-returns-in-Kept-3 t c =
    let inner = rw c.in-Kept-3.is at c.in_ok-put-in-Right.ensures in
    puts_right c.args.turn c.way-way.result.1 c.args.free c.way-way.result.0 c.args.aim.now c.args.depth c.args.above c.args.self.now c.in-Some.fork.now c.in-Some.fork.now.right.rows c.args.self.now.rows
    c.in-Some.ensures c.in-Right.is (c.way-way.ensures c.args.self.now c.in-Some.ensures) inner c.in-Some.ensures.rows

pub Tree::put-with_right-requires : goal.Tree::put-with_right-requires
Tree::put-with_right-requires t c =
    let inner = rw c.in-Made-3.is at c.in_ok-put-in-Right.ensures in
    regrown c.way-way.result.1 c.args.free c.args.aim.now c.args.depth c.args.above c.asked-side.result c.args.self.now c.in-Some.fork.now c.in-Some.fork.now.right.rows c.in-Made-3.right.rows
    c.in-Some.ensures (rw c.steps.ensures.steps at c.asked-side.ensures) c.steps.ensures.under inner

pub Tree::put-returns-in_ok-with_right-in-Made-3 : goal.Tree::put-returns-in_ok-with_right-in-Made-3
Tree::put-returns-in_ok-with_right-in-Made-3 t c =
    let inner = rw c.in-Made-3.is at c.in_ok-put-in-Right.ensures in
    puts_right c.args.turn c.way-way.result.1 c.args.free c.way-way.result.0 c.args.aim.now c.args.depth c.args.above c.args.self.now c.in-Some.fork.now c.in-Made-3.right.rows c.in_ok-with_right-in-Made-3.field-0.rows
    c.in-Some.ensures c.in-Right.is (c.way-way.ensures c.args.self.now c.in-Some.ensures) inner c.in_ok-with_right-in-Made-3.ensures

longer : (depth len n : ℕ) → depth < len → n ≡ len → (n ≡ depth + 1 → ⊥) → depth + 1 < len
longer depth len n within same other = omega (arith, within, same, other)

pub Twig::put-returns-then-has_block : goal.Twig::put-returns-then-has_block
Twig::put-returns-then-has_block t c =
    puts_kept c.args.aim.now c.args.depth c.args.self.now (c.is_on_way.ensures c.if-not-is_on_way.false) (sym c.len.ensures ∙ c.if-len-depth.true) (c.has_block.ensures c.if-has_block.true)

pub Twig::put-returns-then-len-depth : goal.Twig::put-returns-then-len-depth
Twig::put-returns-then-len-depth t c =
    let at = c.is_on_way.ensures c.if-not-is_on_way.false in
    puts_last c.args.aim.now c.args.depth c.args.self.now (option_map_or rows_of c.in_ok-node.field-0 []) at (sym c.len.ensures ∙ c.if-len-depth.true) c.in_ok-node.ensures

pub Twig::put-returns-in-Kept : goal.Twig::put-returns-in-Kept
Twig::put-returns-in-Kept t c =
    let at = c.is_on_way.ensures c.if-not-is_on_way.false in
    let within : c.args.depth < length c.args.aim.now.steps = c.in-Some.ensures.within in
    let long : c.args.depth + 1 < length c.args.aim.now.steps = longer _ _ c.len.result within c.len.ensures c.if-len-depth.false in
    let inner = rw c.in-Kept.is at c.in_ok-put.ensures in
    let below = ap (λ s. s.below.rows) c.self.view_is in
    puts_on _ _ c.args.aim.now c.args.depth c.in-Some.step.now c.args.self.now c.args.self.now.below.rows at long (sym c.in-Some.ensures.step) c.turn_at-turn.ensures (rw below at c.is_free-free.ensures) (rw below at inner)

pub Twig::put-with_below-requires : goal.Twig::put-with_below-requires
Twig::put-with_below-requires t c =
    let at = c.is_on_way.ensures c.if-not-is_on_way.false in
    let inner = rw c.in-Made.is at c.in_ok-put.ensures in
    let below = ap (λ s. s.below.rows) c.self.view_is in
    puts_under _ _ c.args.aim.now c.args.depth _ c.args.self.now c.in-Made.below.rows at (rw below at inner)

pub Twig::put-returns-in_ok-with_below-in-Made : goal.Twig::put-returns-in_ok-with_below-in-Made
Twig::put-returns-in_ok-with_below-in-Made t c =
    let aim = c.args.aim.now in
    let at = c.is_on_way.ensures c.if-not-is_on_way.false in
    let within : c.args.depth < length aim.steps = c.in-Some.ensures.within in
    let long : c.args.depth + 1 < length aim.steps = longer _ _ c.len.result within c.len.ensures c.if-len-depth.false in
    let inner = rw c.in-Made.is at c.in_ok-put.ensures in
    let below = ap (λ s. s.below.rows) c.self.view_is in
    let put = puts_on _ _ aim c.args.depth c.in-Some.step.now c.args.self.now c.in-Made.below.rows at long (sym c.in-Some.ensures.step) c.turn_at-turn.ensures (rw below at c.is_free-free.ensures) (rw below at inner) in
    rw c.in_ok-with_below-in-Made.ensures put
