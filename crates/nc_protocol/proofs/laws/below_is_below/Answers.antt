use Rattle.nc_protocol.proofs.PlaceLemmas as lemmas
use Rattle.nc_protocol.proofs.laws.below_is_below.Goals as goal

pub returns : goal.returns
returns c = lemmas.below_is_below
