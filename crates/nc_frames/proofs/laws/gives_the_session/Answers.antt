use Rattle.nc_frames.proofs.RunLemmas.{gives_session}
use Rattle.nc_frames.proofs.laws.gives_the_session.Goals as goal

pub returns : goal.returns
returns c = gives_session
