use Rattle.nc_yang_scopes.proofs.Arranging.{order_has_no_circle}
use Rattle.nc_yang_scopes.proofs.order_laws.order_has_no_circle.Goals as goal

pub returns : goal.returns
returns c = order_has_no_circle
