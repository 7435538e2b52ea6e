use Rattle.std.proofs.Common.{refl}
use Rattle.nc_outside.specs.Streams.{streams}
use Rattle.nc_session.specs.Serves.{called}
use Rattle.nc_session.proofs.Serving.{not_begun}
use Rattle.nc_session.proofs.serve.serve_session.Goals as goal

pub returns-in-Ok : goal.returns-in-Ok
returns-in-Ok g c = λ home seen mine stands.
    let before = streams (g.S.Source.left c.args.source.now) (g.S.Source.ends c.args.source.now) (g.S.Source.faults c.args.source.now) (g.K.Sink.taken c.args.sink.now) (g.K.Sink.faults c.args.sink.now) in
    let call = called c.args.peer home seen mine before in
    let begun = c.in-Ok.ensures call refl stands in
    c.conclude.ensures c.args.schema.now call
    (streams (g.S.Source.left c.serve_started-met.new.source) (g.S.Source.ends c.serve_started-met.new.source) (g.S.Source.faults c.serve_started-met.new.source) (g.K.Sink.taken c.serve_started-met.new.sink) (g.K.Sink.faults c.serve_started-met.new.sink))
    (c.serve_started-met.ensures call (record { more = begun.0; start = begun.1; starts = begun.2; stands = begun.3; unused = refl }))

pub returns-in-Err : goal.returns-in-Err
returns-in-Err g c = λ home seen mine stands.
    let before = streams (g.S.Source.left c.args.source.now) (g.S.Source.ends c.args.source.now) (g.S.Source.faults c.args.source.now) (g.K.Sink.taken c.args.sink.now) (g.K.Sink.faults c.args.sink.now) in
    let call = called c.args.peer home seen mine before in
    not_begun c.args.schema.now call (g.Q.Desk.stands c.start.new.desk home) (g.Q.Desk.spent c.start.new.desk) before c.in-Err.end refl (c.in-Err.ensures call refl stands)
