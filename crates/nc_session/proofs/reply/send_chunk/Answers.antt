use Rattle.std.proofs.Common.{◌∙◌}
use Rattle.nc_session.proofs.Cutting.{chunk_front, chunk_whole}
use Rattle.nc_session.proofs.reply.send_chunk.Goals as goal

pub returns : goal.returns
returns g c =
    chunk_front c.args.octets.now c.as_slice.result.now (g.K.Sink.taken c.args.sink.now) (g.K.Sink.taken c.send.new.sink) (g.K.Sink.faults c.args.sink.now) (g.K.Sink.faults c.send.new.sink) c.in-Err.end
    (c.as_slice.ensures ∙ c.in_ok-header.ensures) c.in-Err.ensures

pub returns-in-Ok : goal.returns-in-Ok
returns-in-Ok g c =
    chunk_whole c.args.octets.now c.as_slice.result.now (g.K.Sink.taken c.args.sink.now) (g.K.Sink.taken c.send.new.sink) (g.K.Sink.taken c.send-in-Ok.new.sink)
    (g.K.Sink.faults c.args.sink.now) (g.K.Sink.faults c.send.new.sink) (g.K.Sink.faults c.send-in-Ok.new.sink) c.send-in-Ok.result
    (c.as_slice.ensures ∙ c.in_ok-header.ensures) c.in-Ok.ensures c.send-in-Ok.ensures
