use Rattle.nc_frames.proofs.OneLemmas.{one_reading}
use Rattle.nc_frames.proofs.laws.has_one_reading.Goals as goal

pub returns : goal.returns
returns c = one_reading
