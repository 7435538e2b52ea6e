use Rattle.nc_filter.proofs.PlacesLemmas.{place_added}
use Rattle.nc_filter.proofs.places.with.Goals as goal

pub returns : goal.returns
returns c = place_added c.args.items c.insert.new.self c.args.steps c.in_ok-insert.ensures.updates.0
