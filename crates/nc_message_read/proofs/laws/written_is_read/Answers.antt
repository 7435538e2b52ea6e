use Rattle.nc_message_read.proofs.Rereading.{written_is_read}
use Rattle.nc_message_read.proofs.laws.written_is_read.Goals as goal

pub returns : goal.returns
returns c = written_is_read
