-- The text round a colon.
use Rattle.std.proofs.Common.{lit<}
use Rattle.nc_types.proofs.identity.split_colon.Goals as goal

pub returns : goal.returns
returns c = c.split_once.ensures.byte (lit< tt) (λ w o h. h)
