use Rattle.nc_schema.proofs.OrderLemmas as lemmas
use Rattle.nc_schema.proofs.laws.order_is_total.Goals as goal

pub returns : goal.returns
returns c = lemmas.order_is_total
