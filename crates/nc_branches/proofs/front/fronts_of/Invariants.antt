use Rattle.std.proofs.Common.{◌≡◌, take}
use Rattle.nc_branches.specs.inner.Fronts.{orders_in}
use Rattle.nc_branches.proofs.front.fronts_of.Given as goal

abbrev pub invariant-loop-order : goal.invariant-loop-order
invariant-loop-order l = orders_in l.fronts ≡ take l.order-index l.orders
