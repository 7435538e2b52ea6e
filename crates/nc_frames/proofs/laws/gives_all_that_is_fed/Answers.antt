use Rattle.nc_frames.proofs.RunLemmas.{run_gives}
use Rattle.nc_frames.proofs.laws.gives_all_that_is_fed.Goals as goal

pub returns : goal.returns
returns c = run_gives
