use Rattle.std.proofs.Common.{◌≡◌, map, take}
use Rattle.nc_protocol.specs.Reply as reply
use Rattle.nc_errors.proofs.replies.refused.Given as goal

abbrev pub invariant-loop-cause : goal.invariant-loop-cause
invariant-loop-cause g l =
    l.parts
    ≡ map (reply.cause_part l.schema (g.S.Sees.seen l.sees) (g.N.Named.named l.named) l.operation) (take l.cause-index l.causes)
