-- The text before the first space.
use Rattle.std.proofs.Common.{arith}
use Rattle.nc_script_text.proofs.words.cut_at.Goals as goal

pub returns : goal.returns
returns c = c.split_once.ensures.byte (omega arith) (λ w o h. h)
