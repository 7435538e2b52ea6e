-- By their names, and by their kind.
use Rattle.nc_path_places.proofs.KeyLemmas.{proper_keys_are_apart}
use Rattle.nc_path_places.proofs.laws.proper_keys_are_apart.Goals as goal

pub returns : goal.returns
returns c = proper_keys_are_apart
