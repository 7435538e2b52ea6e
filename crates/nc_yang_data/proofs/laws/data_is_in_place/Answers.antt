use Rattle.nc_yang_data.proofs.Lawful.{in_place}
use Rattle.nc_yang_data.proofs.laws.data_is_in_place.Goals as goal

pub returns : goal.returns
returns c = in_place
