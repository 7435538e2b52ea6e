use Rattle.std.proofs.Common.{length}
use Rattle.nc_message_read.proofs.marks.gathered.Given as goal

abbrev pub decreases-loop-reader : goal.decreases-loop-reader
decreases-loop-reader l = length l.reader.rest.now
