use Rattle.nc_protocol.proofs.PlaceLemmas as lemmas
use Rattle.nc_protocol.proofs.laws.places_are_in_order.Goals as goal

pub returns : goal.returns
returns c = lemmas.places_are_in_order
