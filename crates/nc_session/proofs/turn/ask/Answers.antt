use Rattle.std.proofs.Common.{◌++◌, ◌∷◌, [], List, Err, refl, sym, subst, append_assoc}
use Rattle.nc_outside.specs.Streams.{streams}
use Rattle.nc_model.specs.declared.entry.Entry.{Entry}
use Rattle.nc_model.specs.declared.desk.DeskFault.{DeskFault}
use Rattle.nc_model.specs.declared.event.Event.TheVariants.{Request as Requested}
use Rattle.nc_model.specs.Desks.{IsView, Submits, TellsSpent}
use Rattle.nc_session.specs.inner.Unseen.{Unseen}
use Rattle.nc_session.proofs.Living.{dead_request, lands, reads}
use Rattle.nc_session.proofs.Turning.{answered, memory_at_desk, spent_at_desk, based_on}
use Rattle.nc_session.proofs.turn.ask.Goals as goal

pub returns-in-Ok : goal.returns-in-Ok
returns-in-Ok g c = λ schema call base left ends failed phase u.
    let now = streams left ends failed (g.K.Sink.taken c.args.sink.now) (g.K.Sink.faults c.args.sink.now) in
    let later = streams left ends failed (g.K.Sink.taken c.finish.new.sink) (g.K.Sink.faults c.finish.new.sink) in
    let entered = lands refl (c.in-Ok.ensures.entered call.home (call.seen ++ u.more) (call.mine ++ u.course.entries) u.stands) in
    let e = c.in-Ok.entry in
    let P : List Entry → Type 0 = λ s. IsView call.home s ((call.mine ++ u.course.entries) ++ e ∷ []) in
    let view = subst P (sym (append_assoc (call.seen ++ u.more) entered.others (e ∷ []))) (g.met.Q.Desk.views c.submit.new.self call.home _ _ entered.stands) in
    let serving = based_on (Unseen c.args.core.now.inbox) c.args.core.now.phase base u.course.base u.course.bytes _ phase u.at in
    answered schema call c.args.session (g.Q.Desk.stands c.args.desk.now call.home) c.args.core.now now (g.Q.Desk.stands c.submit.new.self call.home) (g.Q.Desk.spent c.submit.new.self) c.args.request u e entered
    (dead_request call.home ((call.seen ++ u.more) ++ entered.others) ((call.mine ++ u.course.entries) ++ e ∷ []) e c.args.session c.args.request view entered.event_is)
    later c.finish.result refl refl refl (c.finish.ensures schema u.course.base serving)

pub returns-in-Err-Memory : goal.returns-in-Err-Memory
returns-in-Err-Memory g c = λ schema call base left ends failed phase u.
    let Then = g.Q.Desk.stands c.submit.new.self call.home in
    let now = streams left ends failed (g.K.Sink.taken c.args.sink.now) (g.K.Sink.faults c.args.sink.now) in
    let P : DeskFault → Type 0 = λ f. Submits Then call.home.alone (call.seen ++ u.more) (call.mine ++ u.course.entries) (Requested c.args.session c.args.request) (Err f) in
    let made = subst P c.in-Err-Memory.field-0-is (c.in-Err-Memory.ensures.entered call.home (call.seen ++ u.more) (call.mine ++ u.course.entries) u.stands) in
    memory_at_desk schema call c.args.session (g.Q.Desk.stands c.args.desk.now call.home) c.args.core.now now Then (g.Q.Desk.spent c.submit.new.self) c.args.request u made.0 (reads made.1)

pub returns-in-Err-Spent : goal.returns-in-Err-Spent
returns-in-Err-Spent g c = λ schema call base left ends failed phase u.
    let Then = g.Q.Desk.stands c.submit.new.self call.home in
    let now = streams left ends failed (g.K.Sink.taken c.args.sink.now) (g.K.Sink.faults c.args.sink.now) in
    let P : DeskFault → Type 0 = λ f. Submits Then call.home.alone (call.seen ++ u.more) (call.mine ++ u.course.entries) (Requested c.args.session c.args.request) (Err f) in
    let T : DeskFault → Type 0 = λ f. TellsSpent (g.Q.Desk.spent c.submit.new.self) f in
    let spent = subst P c.in-Err-Spent.field-0-is (c.in-Err-Spent.ensures.entered call.home (call.seen ++ u.more) (call.mine ++ u.course.entries) u.stands) in
    spent_at_desk schema call c.args.session (g.Q.Desk.stands c.args.desk.now call.home) c.args.core.now now Then (g.Q.Desk.spent c.submit.new.self) c.args.request u c.in-Err-Spent.ticket
    spent.last spent.stands (subst T c.in-Err-Spent.field-0-is c.in-Err-Spent.ensures.spent)
