use Rattle.nc_machine.proofs.Granted as lemmas
use Rattle.nc_machine.proofs.laws.unopposed_is_granted.Goals as goal

pub returns : goal.returns
returns c = lemmas.unopposed_is_granted
