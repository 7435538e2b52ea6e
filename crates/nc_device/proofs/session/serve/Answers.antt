use Rattle.std.proofs.Common.{arith, refl}
use Rattle.nc_machine.specs.Lasting.{lasting}
use Rattle.nc_outside.specs.Streams.{streams}
use Rattle.nc_device.specs.Outside.{times}
use Rattle.nc_device.specs.Sessions.{sitting}
use Rattle.nc_device.proofs.Serving.{is_served}
use Rattle.nc_device.proofs.session.serve.Goals as goal

pub returns : goal.returns
returns g c = λ home seated.
    rw (c.apart.ensures.end, c.apart.ensures.machine, c.apart.ensures.clock)
    (is_served g.row.Q.coded (lasting g.Q.Keeper.doubt g.Q.Keeper.moment g.Q.Keeper.leaves g.Q.Keeper.continues) g.met.Q.Keeper.goes_on
    c.args.peer c.args.schema.now c.requires.opening.0 c.requires.opening.1 c.serve_session-end.new.desk.machine.state.faults home
    (record { machine = c.args.machine; answers = g.C.Clock.count c.args.clock; given = g.C.Clock.given c.args.clock; from = c.answers-from.result })
    (record { machine = c.serve_session-end.new.desk.machine; answers = g.C.Clock.count c.serve_session-end.new.desk.clock; given = g.C.Clock.given c.serve_session-end.new.desk.clock; from = c.serve_session-end.new.desk.from })
    (sitting (streams (g.S.Source.left c.args.source.now) (g.S.Source.ends c.args.source.now) (g.S.Source.faults c.args.source.now) (g.K.Sink.taken c.args.sink.now) (g.K.Sink.faults c.args.sink.now))
    (times (g.C.Clock.given c.args.clock) (g.C.Clock.count c.args.clock)))
    (sitting (streams (g.S.Source.left c.serve_session-end.new.source) (g.S.Source.ends c.serve_session-end.new.source) (g.S.Source.faults c.serve_session-end.new.source) (g.K.Sink.taken c.serve_session-end.new.sink) (g.K.Sink.faults c.serve_session-end.new.sink))
    (times (g.C.Clock.given c.serve_session-end.new.desk.clock) (g.C.Clock.count c.serve_session-end.new.desk.clock)))
    c.serve_session-end.result
    c.requires.good c.requires.opening.2 refl c.answers-from.ensures refl (omega (arith, c.answers-from.ensures))
    refl refl refl seated c.serve_session-end.ensures)
