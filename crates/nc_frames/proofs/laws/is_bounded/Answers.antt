use Rattle.nc_frames.proofs.BoundLemmas.{bounded}
use Rattle.nc_frames.proofs.laws.is_bounded.Goals as goal

pub returns : goal.returns
returns c = bounded
