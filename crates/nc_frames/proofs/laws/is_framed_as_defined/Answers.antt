use Rattle.nc_frames.proofs.RunLemmas.{framed_as_defined}
use Rattle.nc_frames.proofs.laws.is_framed_as_defined.Goals as goal

pub returns : goal.returns
returns c = framed_as_defined
