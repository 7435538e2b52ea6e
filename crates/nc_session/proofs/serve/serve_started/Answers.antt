use Rattle.std.proofs.Common.{[], refl}
use Rattle.nc_outside.specs.Streams.{streams}
use Rattle.nc_session.specs.declared.base.Base.TheVariants.{Base10}
use Rattle.nc_session.proofs.Serving.{no_room, ungreeted, greeted}
use Rattle.nc_session.proofs.serve.serve_started.Goals as goal

pub returns-in_default : goal.returns-in_default
returns-in_default g c = λ call h.
    let now = streams (g.S.Source.left c.args.source.now) (g.S.Source.ends c.args.source.now) (g.S.Source.faults c.args.source.now) (g.K.Sink.taken c.args.sink.now) (g.K.Sink.faults c.args.sink.now) in
    no_room c.args.schema.now call c.args.session (g.Q.Desk.stands c.args.desk.now call.home) now h (g.Q.Desk.spent c.args.desk.now)

pub returns-in-Err : goal.returns-in-Err
returns-in-Err g c = λ call h.
    let now = streams (g.S.Source.left c.args.source.now) (g.S.Source.ends c.args.source.now) (g.S.Source.faults c.args.source.now) (g.K.Sink.taken c.args.sink.now) (g.K.Sink.faults c.args.sink.now) in
    let later = streams (g.S.Source.left c.args.source.now) (g.S.Source.ends c.args.source.now) (g.S.Source.faults c.args.source.now) (g.K.Sink.taken c.greet.new.sink) (g.K.Sink.faults c.greet.new.sink) in
    ungreeted c.args.schema.now call c.args.session (g.Q.Desk.stands c.args.desk.now call.home) now h (g.Q.Desk.spent c.args.desk.now) later c.in-Err.end refl refl refl c.in-Err.ensures

pub converse-met-requires-clause-read : goal.converse-met-requires-clause-read
converse-met-requires-clause-read g c =
    record { base = Base10; bytes = []; given = []; at = c.begin-core.ensures Base10 }

pub returns : goal.returns
returns g c = λ call h.
    let now = streams (g.S.Source.left c.args.source.now) (g.S.Source.ends c.args.source.now) (g.S.Source.faults c.args.source.now) (g.K.Sink.taken c.args.sink.now) (g.K.Sink.faults c.args.sink.now) in
    let later = streams (g.S.Source.left c.args.source.now) (g.S.Source.ends c.args.source.now) (g.S.Source.faults c.args.source.now) (g.K.Sink.taken c.greet.new.sink) (g.K.Sink.faults c.greet.new.sink) in
    c.converse-met.ensures c.args.schema.now call (greeted c.args.schema.now call c.args.session (g.Q.Desk.stands c.args.desk.now call.home) now h c.begin-core.result later
    (c.begin-core.ensures Base10) refl refl refl c.in_default-greet.ensures)
