use Rattle.std.proofs.Common.{length}
use Rattle.nc_frames.proofs.WriteLemmas.{Cutting}
use Rattle.nc_frames.proofs.write.push_chunks.Given as goal

abbrev pub invariant-loop-rest : goal.invariant-loop-rest
invariant-loop-rest l = Cutting l.size l.fn.out l.out l.body l.rest

abbrev pub decreases-loop-rest : goal.decreases-loop-rest
decreases-loop-rest l = length l.rest
