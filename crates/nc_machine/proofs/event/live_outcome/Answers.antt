use Rattle.std.proofs.Common.{◌≡◌, ◌∙◌, sym}
use Rattle.nc_model.specs.declared.event.Event.TheVariants.{Request as Requested}
use Rattle.nc_machine.specs.Lasting.{Lasting, lasting}
use Rattle.nc_courses.specs.declared.course.Course.TheVariants.{Commit}
use Rattle.nc_courses.specs.inner.Courses.{course}
use Rattle.nc_machine.specs.inner.Turns.{failed_in}
use Rattle.nc_machine.proofs.Answering.{commit_told, commit_wanted, keeping_answered, keeping_committed, reaches, unreached}
use Rattle.nc_machine.proofs.Withstanding.{idle_for, idle_wanted, over_commit}
use Rattle.nc_machine.proofs.event.live_outcome.Goals as goal

pub returns-in-Commit-clause-answers : goal.returns-in-Commit-clause-answers
returns-in-Commit-clause-answers g c =
    let is : Commit ≡ course c.args.server.now c.args.session c.args.request.now
    = sym c.in-Commit.is ∙ c.in_ok-verdict.ensures in
    commit_told c.args.server.now _ c.args.session c.args.request.now c.commit.result (sym c.requires.live) is
    c.commit.ensures.commits

pub returns-in-Commit-clause-memory : goal.returns-in-Commit-clause-memory
returns-in-Commit-clause-memory g c =
    commit_wanted c.args.server.now _ _ _ c.args.session c.args.request.now c.commit.result
    c.commit.ensures.commits c.commit.ensures.memory

pub returns-in-Answer-clause-keeping : goal.returns-in-Answer-clause-keeping
returns-in-Answer-clause-keeping g c =
    keeping_answered _ _ _ _ c.args.server.now c.answer.new.self c.args.keeper.now c.args.session c.in-Answer.change
    c.answer.result c.requires.keeping c.answer.ensures.state c.answer.ensures.memory

pub returns-in-Commit-clause-keeping : goal.returns-in-Commit-clause-keeping
returns-in-Commit-clause-keeping g c =
    keeping_committed _ _ _ _ c.args.server.now c.commit.new.server c.args.keeper.now c.commit.new.keeper c.args.session
    c.args.request.now c.commit.result c.requires.keeping c.commit.ensures.commits
    c.commit.ensures.schema_is c.commit.ensures.kept c.commit.ensures.stands c.commit.ensures.faults

pub returns-in_err-verdict-clause-withstands : goal.returns-in_err-verdict-clause-withstands
returns-in_err-verdict-clause-withstands g c =
    let words : Lasting g.row.K.Denot =
    lasting g.K.Keeper.doubt g.K.Keeper.moment g.K.Keeper.leaves g.K.Keeper.continues in
    idle_wanted g.K.Keeper.base words
    (record { fewer = g.met.K.Keeper.fewer; on = g.met.K.Keeper.goes_on; further = g.met.K.Keeper.goes_further })
    _ _ c.args.keeper.now c.from_residual.result c.from_residual.ensures.0

pub returns-in-Answer-clause-withstands : goal.returns-in-Answer-clause-withstands
returns-in-Answer-clause-withstands g c =
    let words : Lasting g.row.K.Denot =
    lasting g.K.Keeper.doubt g.K.Keeper.moment g.K.Keeper.leaves g.K.Keeper.continues in
    idle_for g.K.Keeper.base words
    (record { fewer = g.met.K.Keeper.fewer; on = g.met.K.Keeper.goes_on; further = g.met.K.Keeper.goes_further })
    _ _ c.args.keeper.now (failed_in c.answer.result)
    (unreached c.args.server.now c.args.session c.args.request.now c.in-Answer.verdict c.in-Answer.change
    (sym c.in-Answer.is ∙ c.in_ok-verdict.ensures))

pub returns-in-Commit-clause-withstands : goal.returns-in-Commit-clause-withstands
returns-in-Commit-clause-withstands g c =
    let words : Lasting g.row.K.Denot =
    lasting g.K.Keeper.doubt g.K.Keeper.moment g.K.Keeper.leaves g.K.Keeper.continues in
    over_commit g.K.Keeper.base words c.args.server.now (Requested c.args.session c.args.request.now) c.args.keeper.now
    c.commit.new.keeper (failed_in c.commit.result)
    (reaches c.args.server.now c.args.session c.args.request.now (sym c.requires.live)
    (sym c.in-Commit.is ∙ c.in_ok-verdict.ensures))
    c.commit.ensures.withstands
