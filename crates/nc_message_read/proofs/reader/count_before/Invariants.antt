use Rattle.nc_message_read.proofs.UpTo.{NoneTo}
use Rattle.nc_message_read.proofs.reader.count_before.Given as goal

abbrev pub invariant-loop-place : goal.invariant-loop-place
invariant-loop-place l = NoneTo l.mark l.bytes l.place
