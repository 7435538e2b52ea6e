use Rattle.nc_disclosure.proofs.AlikeReplies.{discloses_least}
use Rattle.nc_disclosure.proofs.laws.alike_states_disclose_least.Goals as goal

pub returns : goal.returns
returns c = discloses_least
