use Rattle.std.proofs.Common.{length}
use Rattle.nc_message_read.specs.inner.State.{state_of}
use Rattle.nc_message_read.specs.inner.Turn.{Went}
use Rattle.nc_message_read.proofs.read.Parser.take_all.Given as goal

abbrev pub invariant-loop-self : goal.invariant-loop-self
invariant-loop-self l = Went (state_of l.fn.self.stack) l.fn.self.reader.rest.now (state_of l.self.stack) l.self.reader.rest.now

abbrev pub decreases-loop-self : goal.decreases-loop-self
decreases-loop-self l = length l.self.reader.rest.now
