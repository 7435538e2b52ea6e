use Rattle.std.proofs.Common.{arith}
use Rattle.std.proofs.lemmas.Result.{on_ok_weaker}
use Rattle.nc_frames.proofs.WriteLemmas.{Cutting-more, Cutting-end}
use Rattle.nc_frames.proofs.write.push_chunks.Goals as goal

pub loop-rest-preserved : goal.loop-rest-preserved
loop-rest-preserved c =
    rw c.tail-rest.ensures (Cutting-more c.args.size c.args.out.now c.loop-rest.out c.push_chunk.new.out c.args.body.now c.loop-rest.rest.now c.loop-rest.invariant (omega arith) c.in_ok-push_chunk.ensures)

pub returns-clause-ok : goal.returns-clause-ok
returns-clause-ok c =
    on_ok_weaker c.push_slice.result (λ end. Cutting-end c.args.size c.args.out.now c.loop-rest.out c.push_chunk-2.new.out c.push_slice.new.self c.args.body.now c.loop-rest.rest.now c.loop-rest.invariant (omega arith) c.in_ok-push_chunk-2.ensures end) c.push_slice.ensures.ok
