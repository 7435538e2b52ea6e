use Rattle.std.proofs.Common.{List, ℕ, Ok, Err, subst, Result}
use Rattle.nc_protocol.specs.declared.request.Request.{Request}
use Rattle.nc_session.specs.declared.end.BadMessage.{BadMessage}
use Rattle.nc_session.specs.declared.end.SessionEnd.TheVariants.{Malformed}
use Rattle.nc_session.specs.Asks.{mode_of}
use Rattle.nc_session.specs.Requests.{AsksFor}
use Rattle.nc_session.specs.inner.Unseen.{Unseen}
use Rattle.nc_session.proofs.Reading.{taken_ask, taken_stop, taken_back, over_gives, inner_gives, inner_phase}
use Rattle.nc_session.proofs.session_core.SessionCore.take.Goals as goal

pub returns-in-Ok-Ok-clause-todo : goal.returns-in-Ok-Ok-clause-todo
returns-in-Ok-Ok-clause-todo c = λ bytes given t.
    let P : List ℕ → Type 0 = λ b. AsksFor c.args.base b (Ok c.in-Ok-Ok.request) in
    let Q : Result Request BadMessage → Type 0 = λ r. AsksFor c.args.base c.as_slice.result.now r in
    taken_ask c.args.self.now c.args.base bytes c.args.message given c.in-Ok-Ok.request c.requires.phase t
    (subst P c.as_slice.ensures (subst Q c.in-Ok-Ok.field-0-is c.in-Ok-Ok.ensures.read))

pub returns-in-Ok-Err-clause-todo : goal.returns-in-Ok-Err-clause-todo
returns-in-Ok-Err-clause-todo c = λ bytes given t.
    let P : List ℕ → Type 0 = λ b. AsksFor c.args.base b (Err c.in-Ok-Err.bad) in
    let Q : Result Request BadMessage → Type 0 = λ r. AsksFor c.args.base c.as_slice.result.now r in
    over_gives _ c.args.base bytes given (Malformed c.in-Ok-Err.bad.at c.in-Ok-Err.bad.why) c.over.result c.over.ensures.phase c.over.ensures.todo
    (taken_stop (Unseen c.args.self.now.inbox (mode_of c.args.base)) c.args.base bytes c.args.message given c.in-Ok-Err.bad t
    (subst P c.as_slice.ensures (subst Q c.in-Ok-Err.field-0-is c.in-Ok-Err.ensures.read)))

pub returns-clause-todo : goal.returns-clause-todo
returns-clause-todo c = λ bytes given t.
    taken_back _ (Unseen c.args.self.now.inbox (mode_of c.args.base)) c.args.base bytes c.args.message given (inner_phase c.self.view_is c.requires.phase) t
    (λ mode first b g. c.put_back.ensures (mode_of c.args.base) first b (inner_gives (mode_of c.args.base) first b c.args.message c.self.view_is g))
