use Rattle.std.proofs.Common.{refl, sym, subst, ◌∙◌}
use Rattle.nc_session.proofs.Ending.{todo_is}
use Rattle.nc_script.proofs.Made.{words_by}
use Rattle.nc_script.proofs.Hearings.{chosen_text, next_broken, over_is, still_live, turn_asks, turn_counts, turn_stops}
use Rattle.nc_script.specs.inner.Hearing.{Turns}
use Rattle.nc_script.proofs.hear.take_turn.Goals as goal

pub returns-in-Ok-Ask-clause-turns : goal.returns-in-Ok-Ask-clause-turns
returns-in-Ok-Ask-clause-turns g c = λ schema course live.
    let next = todo_is c.next.new.self course.base course.bytes course.requests c.in-Ok-Ask.field-0-is
    (c.in-Ok-Ask.ensures.todo course.base course.bytes course.requests live.at) in
    subst (λ r. Turns (words_by g.K.Keeper) schema c.args.session c.args.at course c.args.machine.now
    c.ask.new.machine c.next.new.self c.ask.new.text
    c.args.tally.now c.ask.new.tally r) (sym c.answered.ensures)
    (turn_asks (words_by g.K.Keeper) schema c.args.session c.args.at course next.0 c.in-Ok-Ask.request
    c.args.machine.now c.ask.new.machine c.next.new.self
    c.ask.new.text c.args.tally.now c.ask.new.tally c.ask.result
    (c.ask.ensures.answers schema live.peer course next.0 next.2 live.entered
    (chosen_text schema course next.0 live.peer c.args.session c.args.text.now live.entered next.1 live.text_is)))

pub returns-in-Ok-Ask-clause-counts : goal.returns-in-Ok-Ask-clause-counts
returns-in-Ok-Ask-clause-counts g c = λ is.
    turn_counts c.args.machine.now c.ask.new.machine c.ask.result (sym c.answered.ensures ∙ is) c.ask.ensures.counts

pub returns-in-Ok-NeedBytes-clause-turns : goal.returns-in-Ok-NeedBytes-clause-turns
returns-in-Ok-NeedBytes-clause-turns g c = λ schema course live.
    let next = todo_is c.next.new.self course.base course.bytes course.requests c.in-Ok-NeedBytes.field-0-is
    (c.in-Ok-NeedBytes.ensures.todo course.base course.bytes course.requests live.at) in (
      next.0,
      refl,
      refl,
      still_live schema c.args.session c.args.core.now c.next.new.self c.args.text.now course next.0 live next.1 next.2.0,
      next.2.1,
    )

pub returns-in-Ok-Over-clause-turns : goal.returns-in-Ok-Over-clause-turns
returns-in-Ok-Over-clause-turns g c = λ schema course live.
    let next = todo_is c.next.new.self course.base course.bytes course.requests c.in-Ok-Over.field-0-is
    (c.in-Ok-Over.ensures.todo course.base course.bytes course.requests live.at) in
    subst (λ r. Turns (words_by g.K.Keeper) schema c.args.session c.args.at course c.args.machine.now
    c.stop.new.machine c.next.new.self c.args.text.now
    c.args.tally.now c.args.tally.now r) (sym c.over.ensures)
    (turn_stops (words_by g.K.Keeper) schema c.args.session c.args.at course next.0 c.args.machine.now
    c.stop.new.machine c.next.new.self c.args.text.now
    c.args.tally.now c.in-Ok-Over.end c.stop.result next.2.0 next.2.1
    (chosen_text schema course next.0 live.peer c.args.session c.args.text.now live.entered next.1 live.text_is) c.stop.ensures)

pub returns-in-Ok-Over-clause-counts : goal.returns-in-Ok-Over-clause-counts
returns-in-Ok-Over-clause-counts g c = λ is. absurd (over_is c.stop.result (sym c.over.ensures ∙ is))

pub returns-in-Err-clause-turns : goal.returns-in-Err-clause-turns
returns-in-Err-clause-turns g c = λ schema course live.
    let next = c.in-Err.ensures.todo course.base course.bytes course.requests live.at in
    next_broken c.args.session c.args.at course c.next.new.self next.0 c.args.machine.now next.2
