use Rattle.nc_protocol.proofs.RowOrder as lemmas
use Rattle.nc_protocol.proofs.laws.rows_stand_in_order.Goals as goal

pub returns : goal.returns
returns c = lemmas.rows_stand_in_order
