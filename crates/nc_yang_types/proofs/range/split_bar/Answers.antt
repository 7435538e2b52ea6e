-- The text round a point.
use Rattle.std.proofs.Common.{lit<}
use Rattle.nc_yang_types.proofs.range.split_bar.Goals as goal

pub returns : goal.returns
returns c = c.split_once.ensures.byte (lit< tt) (λ w o h. h)
