use Rattle.std.proofs.Common.{length}
use Rattle.nc_session.proofs.Cutting.{Sending}
use Rattle.nc_session.proofs.reply.send_chunks.Given as goal

-- some chunks are written
abbrev pub invariant-loop-rest : goal.invariant-loop-rest
invariant-loop-rest g l = Sending l.size l.body l.rest (g.K.Sink.taken l.fn.sink) (g.K.Sink.taken l.sink) (g.K.Sink.faults l.fn.sink) (g.K.Sink.faults l.sink)

abbrev pub decreases-loop-rest : goal.decreases-loop-rest
decreases-loop-rest g l = length l.rest
