use Rattle.std.proofs.Common.{sym, ◌∙◌}
use Rattle.nc_session.specs.Sessions.{entry_text}
use Rattle.nc_session.proofs.Turning.{settles_failed, else_live}
use Rattle.nc_session.proofs.turn.settle.Goals as goal

pub returns-in-Err : goal.returns-in-Err
returns-in-Err g c = λ schema base phase. (
  c.left_by-standing.ensures,
  settles_failed (entry_text schema base c.args.entry.now.outcome) (g.K.Sink.taken c.args.sink.now) (g.K.Sink.taken c.send.new.sink)
      (g.K.Sink.faults c.args.sink.now) (g.K.Sink.faults c.send.new.sink) c.left_by-standing.result c.in-Err.end c.in_default.not-Dead (c.in-Err.ensures schema base phase),
)

pub returns-in-Closed : goal.returns-in-Closed
returns-in-Closed g c = λ schema base phase. (c.left_by-standing.ensures, (c.in-Closed.is, c.in_default-send.ensures schema base phase))

pub returns : goal.returns
returns g c = λ schema base phase. (
  sym c.left_by-standing.ensures ∙ else_live c.left_by-standing.result c.in_default.not-Dead c.in_default-standing.not-Closed,
  c.in_default-send.ensures schema base phase,
)
