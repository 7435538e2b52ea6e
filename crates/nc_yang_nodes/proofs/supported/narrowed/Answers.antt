use Rattle.std.proofs.Common.{refl}
use Rattle.nc_yang_nodes.proofs.supported.narrowed.Goals as goal

pub taken_off-requires : goal.taken_off-requires
taken_off-requires c = c.if-is_off.ensures.off refl
