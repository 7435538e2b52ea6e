use Rattle.std.proofs.Common.{Some}
use Rattle.nc_frames.proofs.TurnLemmas.{Advances-none, Advances-then, Turned-then}
use Rattle.nc_frames.proofs.chunks.Reader.read.Goals as goal

pub loop-byte-init : goal.loop-byte-init
loop-byte-init c = Advances-none c.args.self.now c.args.source.now

pub returns-in-Some-2-clause-read : goal.returns-in-Some-2-clause-read
returns-in-Some-2-clause-read c = Turned-then (Some c.in-Some-2.stop) c.turn.new.self c.turn.new.source c.loop-byte.invariant (rw c.in-Some-2.is at c.in_ok-stop.ensures.read)

pub loop-byte-preserved : goal.loop-byte-preserved
loop-byte-preserved c = Advances-then c.loop-byte.invariant (rw c.in_default-2.is at c.in_ok-stop.ensures.read)
