use Rattle.std.proofs.Common.{arith, sym}
use Rattle.nc_outside.proofs.Known.{append_nothing}
use Rattle.nc_session.proofs.Cutting.{sending_none, sending_more, sending_failed, sending_last, sending_last_failed}
use Rattle.nc_session.proofs.reply.send_chunks.Goals as goal

pub loop-rest-init : goal.loop-rest-init
loop-rest-init g c = sending_none c.args.size c.args.body.now (g.K.Sink.taken c.args.sink.now) (g.K.Sink.faults c.args.sink.now) (sym (append_nothing (g.K.Sink.taken c.args.sink.now)))

pub loop-rest-preserved : goal.loop-rest-preserved
loop-rest-preserved g c =
    rw c.tail-rest.ensures (sending_more c.args.size c.args.body.now c.loop-rest.rest.now (g.K.Sink.taken c.args.sink.now) (g.K.Sink.taken c.loop-rest.sink) (g.K.Sink.faults c.args.sink.now) (g.K.Sink.faults c.loop-rest.sink) c.loop-rest.invariant
    (g.K.Sink.taken c.send_chunk.new.sink) (g.K.Sink.faults c.send_chunk.new.sink) c.requires (omega arith) c.in_default.ensures.0 c.in_default.ensures.1)

pub returns-in-Err : goal.returns-in-Err
returns-in-Err g c =
    sending_failed c.args.size c.args.body.now c.loop-rest.rest.now (g.K.Sink.taken c.args.sink.now) (g.K.Sink.taken c.loop-rest.sink) (g.K.Sink.faults c.args.sink.now) (g.K.Sink.faults c.loop-rest.sink) c.loop-rest.invariant
    (g.K.Sink.taken c.send_chunk.new.sink) (g.K.Sink.faults c.send_chunk.new.sink) c.in-Err.end (omega arith) c.in-Err.ensures

pub returns-in-Ok : goal.returns-in-Ok
returns-in-Ok g c =
    sending_last c.args.size c.args.body.now c.loop-rest.rest.now (g.K.Sink.taken c.args.sink.now) (g.K.Sink.taken c.loop-rest.sink) (g.K.Sink.faults c.args.sink.now) (g.K.Sink.faults c.loop-rest.sink) c.loop-rest.invariant
    (g.K.Sink.taken c.send_chunk-2.new.sink) (g.K.Sink.taken c.send.new.sink) (g.K.Sink.faults c.send_chunk-2.new.sink) (g.K.Sink.faults c.send.new.sink) c.send.result (omega arith)
    c.in-Ok.ensures.0 c.in-Ok.ensures.1 c.send.ensures

pub returns-in-Err-send_chunk : goal.returns-in-Err-send_chunk
returns-in-Err-send_chunk g c =
    sending_last_failed c.args.size c.args.body.now c.loop-rest.rest.now (g.K.Sink.taken c.args.sink.now) (g.K.Sink.taken c.loop-rest.sink) (g.K.Sink.faults c.args.sink.now) (g.K.Sink.faults c.loop-rest.sink) c.loop-rest.invariant
    (g.K.Sink.taken c.send_chunk-2.new.sink) (g.K.Sink.faults c.send_chunk-2.new.sink) c.in-Err-send_chunk.end (omega arith) c.in-Err-send_chunk.ensures
