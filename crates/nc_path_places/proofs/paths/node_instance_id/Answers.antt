-- The place is that of the fault.
use Rattle.nc_path_places.proofs.FaultLemmas.{pattern_place, pattern_within}
use Rattle.std.proofs.Common.{rules}
use Rattle.nc_path_places.proofs.paths.node_instance_id.Goals as goal

pub returns-in-None-clause-within : goal.returns-in-None-clause-within
returns-in-None-clause-within g c = pattern_within c.args.schema.now (g.B.Binds.bound c.args.bounds.now) c.args.text.now c.pattern_place.result c.bad_path.result c.bad_path.ensures c.pattern_place.ensures

pub returns-in-None-clause-place : goal.returns-in-None-clause-place
returns-in-None-clause-place g c = pattern_place c.args.schema.now (g.B.Binds.bound c.args.bounds.now) c.args.text.now c.pattern_place.result c.bad_path.result (search rules) c.bad_path.ensures c.pattern_place.ensures
