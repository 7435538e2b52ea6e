use Rattle.std.proofs.Common.{◌∙◌, ap, sym}
use Rattle.nc_names.specs.Same.{is_same_rows}
use Rattle.nc_model.specs.State.{State}
use Rattle.nc_courses.proofs.Drafts.{left_on_running, put_on_running, put_over}
use Rattle.nc_machine.proofs.server.Server.is_modified_by.Goals as goal

pub returns-in-Some-clause-put : goal.returns-in-Some-clause-put
returns-in-Some-clause-put c = λ e.
    put_over c.args.self.now c.in-Some.field-0 c.args.rows.now (sym c.in-Some.is ∙ ap (λ (s : State). s.candidate) c.self.view_is)

pub returns-in-None-clause-put : goal.returns-in-None-clause-put
returns-in-None-clause-put c =
    put_on_running c.args.self.now c.args.rows.now c.is_same.result (sym c.in-None.is ∙ ap (λ (s : State). s.candidate) c.self.view_is)
    (c.is_same.ensures ∙ ap (is_same_rows c.args.rows.now) c.running.ensures)

pub returns-in-None-clause-left : goal.returns-in-None-clause-left
returns-in-None-clause-left c =
    left_on_running c.args.self.now c.args.rows.now c.is_same.result (sym c.in-None.is ∙ ap (λ (s : State). s.candidate) c.self.view_is)
    (c.is_same.ensures ∙ ap (is_same_rows c.args.rows.now) c.running.ensures)
