-- The place is that of the fault.
use Rattle.nc_path_places.proofs.FaultLemmas.{leafref_place, leafref_within}
use Rattle.std.proofs.Common.{rules}
use Rattle.nc_path_places.proofs.paths.leafref_path.Goals as goal

pub returns-in-None-clause-within : goal.returns-in-None-clause-within
returns-in-None-clause-within g c = leafref_within c.args.schema.now (g.B.Binds.bound c.args.bounds.now) c.args.leaf c.args.text.now c.leafref_place.result c.bad_path.result c.bad_path.ensures c.leafref_place.ensures

pub returns-in-None-clause-place : goal.returns-in-None-clause-place
returns-in-None-clause-place g c = leafref_place c.args.schema.now (g.B.Binds.bound c.args.bounds.now) c.args.leaf c.args.text.now c.leafref_place.result c.bad_path.result (search rules) c.bad_path.ensures c.leafref_place.ensures
