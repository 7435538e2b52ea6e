-- The numbers before were seen.
use Rattle.nc_yang_data.specs.inner.Seen.{HasSeen}
use Rattle.nc_yang_data.proofs.again.has_again.Given as goal

abbrev pub invariant-loop-number : goal.invariant-loop-number
invariant-loop-number l = HasSeen l.numbers l.number-index l.seen
