use Rattle.nc_yang_types.proofs.ApartLemmas.{names_apart}
use Rattle.nc_yang_types.proofs.laws.bits_are_apart.Goals as goal

pub returns : goal.returns
returns c = names_apart
