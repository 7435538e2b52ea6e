use Rattle.std.proofs.Common.{◌≡◌, ◌<◌, length, subst, sym, arith}
use Rattle.nc_yang_order.specs.inner.Searches.{with_turn, Moves}
use Rattle.nc_yang_order.proofs.Searching.{moves_entered, moves_passed, moves_finished, turn_known, circle_found, target_within}
use Rattle.nc_yang_order.proofs.search.Search.step.Goals as goal

pub finish-requires : goal.finish-requires
finish-requires c =
    let known : c.args.turn.number < length c.args.graph.now = turn_known c.args.graph.now c.args.self.now c.args.turn c.requires.search in
    omega (arith, known, c.requires.search.marked)

pub returns-in_default : goal.returns-in_default
returns-in_default c =
    subst (Moves c.args.graph.now (with_turn c.args.self.now c.args.turn)) (sym c.in_ok-finish.ensures)
    (moves_finished c.args.graph.now c.args.self.now c.args.turn c.requires.search (sym c.in_default.ensures.value))

pub mark-requires : goal.mark-requires
mark-requires c =
    let known : c.in-Some.target < length c.args.graph.now =
    target_within c.args.graph.now c.args.turn.number c.args.turn.next c.in-Some.target c.requires.within (sym c.in-Some.ensures.value) in
    omega (arith, known, c.requires.search.marked)

pub descend-requires : goal.descend-requires
descend-requires c =
    let known : c.in-Some.target < length c.args.graph.now =
    target_within c.args.graph.now c.args.turn.number c.args.turn.next c.in-Some.target c.requires.within (sym c.in-Some.ensures.value) in
    omega (arith, known, c.requires.search.marked)

pub pass-requires : goal.pass-requires
pass-requires c = c.in-Some.ensures.small

pub returns-in-Open : goal.returns-in-Open
returns-in-Open c =
    circle_found c.args.graph.now c.args.self.now c.args.turn c.requires.search c.in-Some.target (sym c.in-Some.ensures.value) c.in-Open.ensures

pub returns-in_ok-descend-in-Unseen : goal.returns-in_ok-descend-in-Unseen
returns-in_ok-descend-in-Unseen c =
    subst (Moves c.args.graph.now (with_turn c.args.self.now c.args.turn)) (sym c.in_ok-descend-in-Unseen.ensures)
    (moves_entered c.args.graph.now c.args.self.now c.args.turn c.in-Some.target c.requires.search (sym c.in-Some.ensures.value) c.in-Unseen.ensures)

pub returns-in_ok-pass-in-Done : goal.returns-in_ok-pass-in-Done
returns-in_ok-pass-in-Done c =
    subst (Moves c.args.graph.now (with_turn c.args.self.now c.args.turn)) (sym c.in_ok-pass-in-Done.ensures)
    (moves_passed c.args.graph.now c.args.self.now c.args.turn c.in-Some.target c.requires.search (sym c.in-Some.ensures.value) c.in-Done.ensures)
