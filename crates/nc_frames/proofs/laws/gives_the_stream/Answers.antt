use Rattle.nc_frames.proofs.RunLemmas.{gives_stream}
use Rattle.nc_frames.proofs.laws.gives_the_stream.Goals as goal

pub returns : goal.returns
returns c = gives_stream
