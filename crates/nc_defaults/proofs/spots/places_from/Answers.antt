use Rattle.nc_defaults.proofs.SoughtLemmas.{same_without, upward_all}
use Rattle.nc_defaults.proofs.spots.places_from.Goals as goal

pub places_sought-requires-clause-marks : goal.places_sought-requires-clause-marks
places_sought-requires-clause-marks c = upward_all c.args.children.now.nodes

pub returns-clause-places : goal.returns-clause-places
returns-clause-places c = same_without _ _ c.in_ok-found.ensures.places
