use Rattle.nc_payload.proofs.GatherLemmas.{nothing_held}
use Rattle.nc_payload.proofs.gather.Gathered.new.Goals as goal

pub returns : goal.returns
returns c = λ tables turns. nothing_held tables turns _ c.new.ensures.empty c.new-2.ensures.empty
