use Rattle.std.proofs.Common.{rules}
use Rattle.nc_message.proofs.Children.{written_child_is}
use Rattle.nc_message.proofs.writer.+write.Goals as goal

pub write_part-returns-in-Child : goal.write_part-returns-in-Child
write_part-returns-in-Child t c = search (rules, written_child_is)
