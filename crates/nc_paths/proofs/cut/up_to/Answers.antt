-- The text up to a mark.
use Rattle.std.proofs.Common.{arith}
use Rattle.nc_paths.proofs.CutLemmas.{up_to_is}
use Rattle.nc_paths.proofs.cut.up_to.Goals as goal

pub returns : goal.returns
returns c = up_to_is c.args.mark c.args.text.now c.split_once.result (c.split_once.ensures.byte (omega arith) (λ w o h. h))
