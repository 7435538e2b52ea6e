use Rattle.nc_yang_order.proofs.Circles.{order_has_no_circle}
use Rattle.nc_yang_order.proofs.laws.order_has_no_circle.Goals as goal

pub returns : goal.returns
returns c = order_has_no_circle
