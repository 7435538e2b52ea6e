use Rattle.nc_protocol.proofs.StandingLaws.{rows_stand_whole}
use Rattle.nc_protocol.proofs.laws.rows_stand_whole.Goals as goal

pub returns : goal.returns
returns c = rows_stand_whole
