use Rattle.std.specs.Prelude.{◌≤◌, length}
use Rattle.nc_outside.specs.Streams.{streams}
use Rattle.nc_schema.specs.Tables.{Tables}
use Rattle.nc_session.specs.Serves.{Call}
use Rattle.nc_session.specs.inner.Turns.{HasRead, Underway, entered_all}
use Rattle.nc_session.proofs.serve.converse.Given as goal

-- the session goes on, if it did before the loop, and so many requests were answered
abbrev pub invariant-loop-request : goal.invariant-loop-request
invariant-loop-request g l = ((schema : Tables) (call : Call)
    → Underway schema call l.fn.session (g.Q.Desk.stands l.fn.desk call.home) entered_all l.fn.core
    (streams (g.S.Source.left l.fn.source) (g.S.Source.ends l.fn.source) (g.S.Source.faults l.fn.source) (g.K.Sink.taken l.fn.sink) (g.K.Sink.faults l.fn.sink))
    → (u : Underway schema call l.fn.session (g.Q.Desk.stands l.desk call.home) entered_all l.core
    (streams (g.S.Source.left l.source) (g.S.Source.ends l.source) (g.S.Source.faults l.source) (g.K.Sink.taken l.sink) (g.K.Sink.faults l.sink)))
    × (l._request ≤ length u.course.requests)) × HasRead l.core
