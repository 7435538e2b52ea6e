use Rattle.nc_frames.proofs.RunLemmas.{writes_one}
use Rattle.nc_frames.proofs.laws.writes_one_message.Goals as goal

pub returns : goal.returns
returns c = writes_one
