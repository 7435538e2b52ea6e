use Rattle.nc_yang_nodes.specs.FeaturesOn.{is_on}
use Rattle.nc_yang_nodes.proofs.Supporting.{narrows_at, off_each, on_there}
use Rattle.nc_yang_nodes.proofs.supported.taken_off.Goals as goal

pub returns : goal.returns
returns c = record {
  narrows =
      narrows_at c.args.scopes.now (is_on c.args.features) (is_on c.without.result) c.args.number c.in-Some.text c.name.result.now c.in-Some-statement.statement.now
      c.in-Some.ensures c.in-Some-statement.ensures c.name.ensures (off_each c.args.scopes.now (is_on c.args.features) c.args.number c.requires) c.without.ensures.others;
  fewer =
      c.without.ensures.fewer
      (on_there c.args.scopes.now (is_on c.args.features) c.args.number c.in-Some.text c.name.result.now c.in-Some-statement.statement.now
      c.in-Some.ensures c.in-Some-statement.ensures c.name.ensures c.requires);
}
