use Rattle.std.proofs.Common.{Result, subst, sym}
use Rattle.std.proofs.lemmas.Result.{err_from_is_err_and}
use Rattle.nc_names.specs.declared.memory.Memory.{Memory}
use Rattle.nc_session.specs.declared.session_core.Todo.{Todo}
use Rattle.nc_session.specs.Cores.{IsNext}
use Rattle.nc_session.proofs.Reading.{inner_phase, next_serving, same_chosen}
use Rattle.nc_session.proofs.session_core.SessionCore.next.Goals as goal

pub returns-in-Serving-clause-todo : goal.returns-in-Serving-clause-todo
returns-in-Serving-clause-todo c = λ base bytes given at.
    next_serving c.meet.new.self c.ask.new.self c.in-Serving.base base bytes given c.ask.result (inner_phase (sym c.self.view_is) c.in-Serving.is)
    (c.in_ok-meet.ensures base bytes given at) c.ask.ensures.todo

pub returns-in_err-meet-clause-todo : goal.returns-in_err-meet-clause-todo
returns-in_err-meet-clause-todo c = λ base bytes given at.
    let P : Result Todo Memory → Type 0 = λ r. IsNext c.meet.new.self base bytes given r in
    let p = err_from_is_err_and c.from_residual.result c.from_residual.ensures.1 in
    subst P (sym p.1) (base, same_chosen given base, c.in_err-meet.ensures base bytes given at)
