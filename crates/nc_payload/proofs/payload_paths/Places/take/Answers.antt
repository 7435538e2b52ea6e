use Rattle.std.proofs.Common.{refl}
use Rattle.nc_payload.proofs.PlacesLemmas.{items_added}
use Rattle.nc_payload.proofs.payload_paths.Places.take.Goals as goal

pub returns : goal.returns
returns c = (refl, items_added c.args.self.now.items c.insert.new.self c.args.steps c.in_ok-insert.ensures.updates.0)
