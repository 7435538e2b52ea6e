use Rattle.std.proofs.Common.{◌≡◌, length}
use Rattle.nc_message.specs.Texts.{resolved, onto}
use Rattle.nc_message_read.proofs.text.resolve_each.Given as goal

abbrev pub invariant-loop-first : goal.invariant-loop-first
invariant-loop-first l = resolved l.refers l.in_value 0 l.raw ≡ onto l.out (resolved l.refers l.in_value 0 l.rest)

abbrev pub decreases-loop-first : goal.decreases-loop-first
decreases-loop-first l = length l.rest
