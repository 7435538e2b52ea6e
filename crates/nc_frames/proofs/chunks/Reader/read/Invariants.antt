use Rattle.std.proofs.Common.{length}
use Rattle.nc_frames.specs.inner.Turns.{Advances}
use Rattle.nc_frames.proofs.chunks.Reader.read.Given as goal

abbrev pub invariant-loop-byte : goal.invariant-loop-byte
invariant-loop-byte l = Advances l.fn.self l.fn.source l.self l.source

abbrev pub decreases-loop-byte : goal.decreases-loop-byte
decreases-loop-byte l = length l.source
