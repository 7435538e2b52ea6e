use Rattle.nc_session.proofs.Turning.{on_ok}
use Rattle.nc_script.proofs.Hearings.{answered_as, entered_counts, not_asked}
use Rattle.nc_script.proofs.hear.ask.Goals as goal

pub returns-in-Ok-clause-answers : goal.returns-in-Ok-clause-answers
returns-in-Ok-clause-answers g c = λ schema peer course base todo has was.
    answered_as schema peer c.args.session c.args.at course base c.args.request c.args.machine.now c.submit.new.machine c.args.core.now
    c.args.text.now c.conclude.new.text c.args.tally.now c.conclude.new.tally todo has c.in-Ok.entry c.in-Ok.ensures was
    c.conclude.result (c.conclude.ensures.settles schema base course.bytes course.requests c.args.request todo)
    c.conclude.ensures.tallied

pub returns-in-Ok-clause-counts : goal.returns-in-Ok-clause-counts
returns-in-Ok-clause-counts g c =
    on_ok c.conclude.result (entered_counts c.args.machine.now c.submit.new.machine _ c.args.at c.in-Ok.entry c.in-Ok.ensures)

pub returns-in-Err-clause-answers : goal.returns-in-Err-clause-answers
returns-in-Err-clause-answers g c = λ schema peer course base todo has was.
    not_asked schema peer c.args.session c.args.at course base c.args.request c.args.machine.now c.submit.new.machine c.args.core.now
    c.args.text.now c.args.text.now c.args.tally.now c.args.tally.now todo has c.in-Err.fault c.in-Err.ensures
