-- The place is that of the fault.
use Rattle.nc_path_places.proofs.FaultLemmas.{instance_place, instance_within}
use Rattle.std.proofs.Common.{rules}
use Rattle.nc_path_places.proofs.paths.instance_id.Goals as goal

pub returns-in-None-clause-within : goal.returns-in-None-clause-within
returns-in-None-clause-within g c = instance_within c.args.schema.now (g.B.Binds.bound c.args.bounds.now) c.args.text.now c.place.result c.bad_path.result c.bad_path.ensures c.place.ensures

pub returns-in-None-clause-place : goal.returns-in-None-clause-place
returns-in-None-clause-place g c = instance_place c.args.schema.now (g.B.Binds.bound c.args.bounds.now) c.args.text.now c.place.result c.bad_path.result (search rules) c.bad_path.ensures c.place.ensures
