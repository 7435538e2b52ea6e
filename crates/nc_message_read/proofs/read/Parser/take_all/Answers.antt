use Rattle.std.proofs.Common.{◌<◌, length, rules}
use Rattle.nc_message_read.specs.inner.State.{state_of}
use Rattle.nc_message_read.specs.inner.Turn.{Takes}
use Rattle.nc_message_read.proofs.Going.{went_more}
use Rattle.nc_message_read.proofs.read.Parser.take_all.Goals as goal

pub loop-self-preserved : goal.loop-self-preserved
loop-self-preserved c =
    let old = c.loop-self.self in
    let new = c.turn.new.self in
    let some : 0 < length old.reader.rest.now = search rules in
    let takes : Takes (state_of old.stack) old.reader.rest.now (state_of new.stack) new.reader.rest.now = rw c.in_default.is at c.in_ok-stop.ensures.turn in
    went_more (state_of c.args.self.now.stack) (state_of old.stack) (state_of new.stack) c.args.self.now.reader.rest.now old.reader.rest.now new.reader.rest.now c.loop-self.invariant some takes
