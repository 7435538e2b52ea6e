use Rattle.nc_yang_nodes.proofs.Sound.{plan_is_sound}
use Rattle.nc_yang_nodes.proofs.laws.plan_is_sound.Goals as goal

pub returns : goal.returns
returns c = plan_is_sound
