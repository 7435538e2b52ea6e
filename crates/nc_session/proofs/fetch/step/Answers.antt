use Rattle.nc_session.specs.Cores.{IsAt}
use Rattle.nc_session.specs.inner.Turns.{intake}
use Rattle.nc_session.specs.inner.Unseen.{Unseen}
use Rattle.nc_session.proofs.Ending.{todo_is, asks_in}
use Rattle.nc_session.proofs.Fetching.{step_ask, step_over, step_memory, step_read, step_end}
use Rattle.nc_session.proofs.fetch.step.Goals as goal

pub returns-in-Ok-Ask-clause-step : goal.returns-in-Ok-Ask-clause-step
returns-in-Ok-Ask-clause-step g c = λ base bytes given at.
    let here = intake (g.S.Source.left c.args.source.now) (g.S.Source.ends c.args.source.now) (g.S.Source.faults c.args.source.now) in
    let next = todo_is c.next.new.self base bytes given c.in-Ok-Ask.field-0-is (c.in-Ok-Ask.ensures.todo base bytes given at) in
    step_ask c.next.new.self base next.0 bytes given here next.1 c.in-Ok-Ask.request next.2.0 next.2.1

pub returns-in-Ok-clause-step : goal.returns-in-Ok-clause-step
returns-in-Ok-clause-step g c = λ base bytes given at.
    let here = intake (g.S.Source.left c.args.source.now) (g.S.Source.ends c.args.source.now) (g.S.Source.faults c.args.source.now) in
    let now = intake (g.S.Source.left c.read_on.new.source) (g.S.Source.ends c.read_on.new.source) (g.S.Source.faults c.read_on.new.source) in
    let next = todo_is c.next.new.self base bytes given c.in-Ok-NeedBytes.field-0-is (c.in-Ok-NeedBytes.ensures.todo base bytes given at) in
    step_read c.read_on.new.core base next.0 bytes given here next.1 now next.2.1 (c.in-Ok.ensures next.0 bytes given next.2.0)

pub returns-in-Err-read_on-clause-step : goal.returns-in-Err-read_on-clause-step
returns-in-Err-read_on-clause-step g c = λ base bytes given at.
    let here = intake (g.S.Source.left c.args.source.now) (g.S.Source.ends c.args.source.now) (g.S.Source.faults c.args.source.now) in
    let now = intake (g.S.Source.left c.read_on.new.source) (g.S.Source.ends c.read_on.new.source) (g.S.Source.faults c.read_on.new.source) in
    let next = todo_is c.next.new.self base bytes given c.in-Ok-NeedBytes.field-0-is (c.in-Ok-NeedBytes.ensures.todo base bytes given at) in
    step_end c.read_on.new.core base next.0 bytes given here next.1 (λ it. IsAt c.read_on.new.core next.0 it given) now c.in-Err-read_on.end next.2.1
    (c.in-Err-read_on.ensures next.0 bytes given next.2.0)

pub returns-in-Ok-Over-clause-step : goal.returns-in-Ok-Over-clause-step
returns-in-Ok-Over-clause-step g c = λ base bytes given at.
    let here = intake (g.S.Source.left c.args.source.now) (g.S.Source.ends c.args.source.now) (g.S.Source.faults c.args.source.now) in
    let next = todo_is c.next.new.self base bytes given c.in-Ok-Over.field-0-is (c.in-Ok-Over.ensures.todo base bytes given at) in
    step_over c.next.new.self base next.0 bytes given here next.1 c.in-Ok-Over.end next.2.1

pub returns-in-Err-clause-step : goal.returns-in-Err-clause-step
returns-in-Err-clause-step g c = λ base bytes given at.
    let here = intake (g.S.Source.left c.args.source.now) (g.S.Source.ends c.args.source.now) (g.S.Source.faults c.args.source.now) in
    let next = c.in-Err.ensures.todo base bytes given at in
    step_memory c.next.new.self base next.0 bytes given here next.1
    (asks_in (Unseen c.next.new.self.inbox) c.next.new.self.phase next.0 bytes given next.2)
