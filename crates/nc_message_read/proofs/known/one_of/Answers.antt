use Rattle.std.proofs.Common.{◌∙◌, sym}
use Rattle.std.specs.Cmp.Lexicographic.{bytes_decides}
use Rattle.nc_message_read.proofs.known.one_of.Goals as goal

pub returns-then-is_spelled : goal.returns-then-is_spelled
returns-then-is_spelled c = (bytes_decides c.text-item.result c.args.chars.now).0 (sym c.is_spelled.ensures ∙ c.if-is_spelled.true)
