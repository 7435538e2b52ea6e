use Rattle.nc_frames.proofs.BadLemmas.{bad_is_first}
use Rattle.nc_frames.proofs.laws.bad_frame_is_first.Goals as goal

pub returns : goal.returns
returns c = bad_is_first
