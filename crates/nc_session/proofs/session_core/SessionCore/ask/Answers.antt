use Rattle.std.proofs.Common.{Result, subst, sym}
use Rattle.std.proofs.lemmas.Result.{err_from_is_err_and}
use Rattle.nc_names.specs.declared.memory.Memory.{Memory}
use Rattle.nc_session.specs.declared.session_core.Todo.{Todo}
use Rattle.nc_session.specs.Cores.{Core}
use Rattle.nc_session.specs.inner.Steps.{GivesMore}
use Rattle.nc_session.specs.inner.Unseen.{Unseen}
use Rattle.nc_session.proofs.Reading.{ask_none, ask_takes, ask_stop, ask_memory, over_gives, inner, inner_phase, gave_none, gave_some, gave_memory, message_fault}
use Rattle.nc_session.proofs.session_core.SessionCore.ask.Goals as goal

pub returns-in-Ok-None-clause-todo : goal.returns-in-Ok-None-clause-todo
returns-in-Ok-None-clause-todo c = λ bytes given at.
    let V = Unseen c.next.new.self in
    ask_none (Unseen c.self.inside.inbox) V c.self.inside.phase c.args.base bytes given (inner_phase c.self.view_is c.requires)
    (λ mode first b u. gave_none V mode first b c.in-Ok-None.field-0-is (c.in-Ok-None.ensures.gives mode first b u))
    (inner c.args.base bytes given c.self.view_is at)

pub returns-in-Ok-Some-clause-todo : goal.returns-in-Ok-Some-clause-todo
returns-in-Ok-Some-clause-todo c = λ bytes given at.
    let V = Unseen c.next.new.self in
    c.take.ensures.todo bytes given
    (ask_takes (Unseen c.self.inside.inbox) V c.self.inside.phase c.args.base bytes c.in-Ok-Some.message given (inner_phase c.self.view_is c.requires)
    (λ mode first b u. gave_some V mode first b c.in-Ok-Some.field-0-is (c.in-Ok-Some.ensures.gives mode first b u))
    (inner c.args.base bytes given c.self.view_is at))

pub returns-in_ok-end-in-Err-clause-todo : goal.returns-in_ok-end-in-Err-clause-todo
returns-in_ok-end-in-Err-clause-todo c = λ bytes given at.
    over_gives _ c.args.base bytes given c.in_ok-end-in-Err.end c.over.result c.over.ensures.phase c.over.ensures.todo
    (ask_stop (Unseen c.self.inside.inbox) c.self.inside.phase c.args.base bytes given c.in_ok-end-in-Err.end (inner_phase c.self.view_is c.requires)
    (λ first b u. message_fault (Unseen c.next.new.self) c.args.base first b c.in-Err.fault c.in_ok-end-in-Err.end c.in_ok-end-in-Err.ensures (c.in-Err.ensures.gives _ first b u))
    (inner c.args.base bytes given c.self.view_is at))

pub returns-in_err-end-in-Err-clause-todo : goal.returns-in_err-end-in-Err-clause-todo
returns-in_err-end-in-Err-clause-todo c = λ bytes given at.
    let V = Unseen c.next.new.self in
    let core : Core = record { inbox = c.next.new.self; phase = c.self.inside.phase } in
    let P : Result Todo Memory → Type 0 = λ r. GivesMore core c.args.base bytes given r in
    let p = err_from_is_err_and c.from_residual.result c.from_residual.ensures.1 in
    subst P (sym p.1)
    (ask_memory (Unseen c.self.inside.inbox) V c.self.inside.phase c.args.base bytes given (inner_phase c.self.view_is c.requires)
    (λ mode first b u. gave_memory V mode first b c.in-Err.fault _ c.in_err-end-in-Err.ensures (c.in-Err.ensures.gives mode first b u))
    (inner c.args.base bytes given c.self.view_is at))
