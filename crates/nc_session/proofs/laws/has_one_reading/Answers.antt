use Rattle.nc_session.proofs.Agreeing.{one_reading}
use Rattle.nc_session.proofs.laws.has_one_reading.Goals as goal

pub returns : goal.returns
returns c = one_reading
