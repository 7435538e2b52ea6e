use Rattle.nc_message.proofs.Tags.{holds_no_mark}
use Rattle.nc_message.proofs.writer.written_holds_no_mark.Goals as goal

pub returns : goal.returns
returns c = holds_no_mark
